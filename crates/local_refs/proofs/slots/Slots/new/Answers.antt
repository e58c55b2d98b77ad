use Rattle.std.proofs.Common.{◌≡◌, ℕ, ◌-◌, ◌++◌, take, replicate, ap, ap₂, ◌∙◌, length, arith}
use Rattle.relay_base.specs.declared.limits.TheConstants.{SLOTS}
use Rattle.local_refs.specs.declared.state.SlotState.TheVariants.{Free}
use Rattle.local_refs.specs.Inner.Swept.{swept_all, soonest_in}
use Rattle.local_refs.proofs.Sweeps.{swept_free, soonest_free}
use Rattle.local_refs.proofs.Firsts.{taken_none}
use Rattle.local_refs.proofs.slots.Slots.new.Goals as goal
use Rattle.std.proofs.lemmas.List.{length-replicate}
use Rattle.std.specs.Vec.{vec_len}
use Rattle.local_refs.specs.declared.state.TheConstants.{LONGEST}

pub invariant_of-result : goal.invariant_of-result
invariant_of-result c =
    let made : c.resize.new.self.items ≡ replicate SLOTS Free =
    c.in_ok-resize.ensures.items ∙ ap₂ (λ xs n. take SLOTS xs ++ replicate (SLOTS - n) Free) c.new-states.ensures.items c.new-states.ensures.len in
    let first : c.resize-2.new.self.items ≡ replicate SLOTS 0 =
    c.in_ok-resize-2.ensures.items ∙ ap (λ g. take SLOTS c.new-generations.result.items ++ replicate (SLOTS - vec_len c.new-generations.result) g) c.first_generation.ensures
    ∙ ap₂ (λ xs n. take SLOTS xs ++ replicate (SLOTS - n) 0) c.new-generations.ensures.items c.new-generations.ensures.len in
    let never : soonest_in c.resize.new.self.items ≡ LONGEST = ap soonest_in made ∙ soonest_free SLOTS in (
      ap (λ xs. length xs) made ∙ length-replicate SLOTS Free,
      c.requires.lane,
      omega arith,
      omega arith,
      omega (arith, never),
      taken_none c.resize.new.self.items,
      ap (λ xs. length xs) first ∙ length-replicate {A = ℕ} SLOTS 0,
    )

pub returns : goal.returns
returns c =
    let made : c.resize.new.self.items ≡ replicate SLOTS Free =
    c.in_ok-resize.ensures.items ∙ ap₂ (λ xs n. take SLOTS xs ++ replicate (SLOTS - n) Free) c.new-states.ensures.items c.new-states.ensures.len in
    let first : c.resize-2.new.self.items ≡ replicate SLOTS 0 =
    c.in_ok-resize-2.ensures.items ∙ ap (λ g. take SLOTS c.new-generations.result.items ++ replicate (SLOTS - vec_len c.new-generations.result) g) c.first_generation.ensures
    ∙ ap₂ (λ xs n. take SLOTS xs ++ replicate (SLOTS - n) 0) c.new-generations.ensures.items c.new-generations.ensures.len in
    ap (λ xs. record { lane = c.args.lane; freeze = c.args.freeze; states = swept_all 0 xs; generations = c.resize-2.new.self.items }) made
    ∙ ap (λ xs. record { lane = c.args.lane; freeze = c.args.freeze; states = xs; generations = c.resize-2.new.self.items }) (swept_free SLOTS 0)
    ∙ ap (λ xs. record { lane = c.args.lane; freeze = c.args.freeze; states = replicate SLOTS Free; generations = xs }) first
