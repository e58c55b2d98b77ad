-- The timers three by three are the timers one by one.
use Rattle.std.proofs.Common.{◌≡◌, ℕ, List, Result, Ok, Err, refl, ◌∙◌, codes, max}
use Rattle.relay_base.specs.Giving.{◌>>=◌}
use Rattle.toml.specs.Data.{Members}
use Rattle.node_head.specs.declared.fault.HeadFault.{HeadFault}
use Rattle.node_head.specs.declared.section.Place.{Place}
use Rattle.node_head.specs.Timers.{ticks_at, ticks_of}
use Rattle.node_head.specs.Inner.Timers.{connection_ticks, release_ticks, waiting_ticks, management_ticks, all_ticks, grouped_ticks}

one-flat : {C D T F : Type 0} (r : Result C F) (t : C → T) (k : T → Result D F) → ((r >>= (λ c. Ok (t c))) >>= k) ≡ (r >>= (λ c. k (t c)))
one-flat (Ok c) t k = refl
one-flat (Err e) t k = refl

two-flat : {B C D T F : Type 0} (q : Result B F) (r : B → Result C F) (t : B → C → T) (k : T → Result D F)
    → ((q >>= (λ b. r b >>= (λ c. Ok (t b c)))) >>= k) ≡ (q >>= (λ b. r b >>= (λ c. k (t b c))))
two-flat (Ok b) r t k = one-flat (r b) (t b) k
two-flat (Err e) r t k = refl

three-flat : {D : Type 0} (p : Result ℕ HeadFault) (q : ℕ → Result ℕ HeadFault) (r : Result ℕ HeadFault) (k : ℕ × ℕ × ℕ → Result D HeadFault)
    → ((p >>= (λ a. q a >>= (λ b. r >>= (λ c. Ok (a, b, c))))) >>= k) ≡ (p >>= (λ a. q a >>= (λ b. r >>= (λ c. k (a, b, c)))))
three-flat (Ok a) q r k = two-flat (q a) (λ b. r) (λ b c. (a, b, c)) k
three-flat (Err e) q r k = refl

pub grouped-flat : (place : Place) (ms : Members) → grouped_ticks place ms ≡ ticks_of place ms
unfolding grouped_ticks connection_ticks release_ticks waiting_ticks management_ticks ticks_of
grouped-flat place ms =
    let read : (key : List ℕ) → ℕ → ℕ → Result ℕ HeadFault = ticks_at place ms in
    three-flat (read (codes "connect") 90 1) (λ _. read (codes "ias") 420 60) (read (codes "iar") 900 1)
    (λ c. release_ticks place ms >>= (λ r. waiting_ticks place ms >>= (λ w. management_ticks place ms >>= all_ticks c r w)))
    ∙ (λ i. read (codes "connect") 90 1 >>= (λ connect. read (codes "ias") 420 60 >>= (λ ias. read (codes "iar") 900 1 >>= (λ iar.
    (three-flat (read (codes "rel") 15 1) (λ _. read (codes "repeat") 15 5) (read (codes "int") 60 1)
    (λ r. waiting_ticks place ms >>= (λ w. management_ticks place ms >>= all_ticks (connect, ias, iar) r w))) i))))
    ∙ (λ i. read (codes "connect") 90 1 >>= (λ connect. read (codes "ias") 420 60 >>= (λ ias. read (codes "iar") 900 1 >>= (λ iar.
    read (codes "rel") 15 1 >>= (λ rel. read (codes "repeat") 15 5 >>= (λ repeat. read (codes "int") 60 1 >>= (λ int.
    (three-flat (read (codes "reset") 15 1) (λ _. read (codes "reassembly") 15 1) (read (codes "freeze") 60 1)
    (λ w. management_ticks place ms >>= all_ticks (connect, ias, iar) (rel, repeat, int) w)) i)))))))
    ∙ (λ i. read (codes "connect") 90 1 >>= (λ connect. read (codes "ias") 420 60 >>= (λ ias. read (codes "iar") 900 1 >>= (λ iar.
    read (codes "rel") 15 1 >>= (λ rel. read (codes "repeat") 15 5 >>= (λ repeat. read (codes "int") 60 1 >>= (λ int.
    read (codes "reset") 15 1 >>= (λ reset. read (codes "reassembly") 15 1 >>= (λ reassembly. read (codes "freeze") 60 1 >>= (λ freeze.
    (three-flat (read (codes "status") 30 1) (λ status. read (codes "status_max") (max 600 status) status) (read (codes "coord") 90 1)
    (all_ticks (connect, ias, iar) (rel, repeat, int) (reset, reassembly, freeze))) i))))))))))
