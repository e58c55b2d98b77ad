-- When two keys are the same.
use Rattle.std.proofs.Common.{◌≡◌, ◌==◌, true, false, refl, sym, ap, ◌∙◌, ◌&&◌}
use Rattle.std.specs.Str.{bytes_eq}
use Rattle.std.proofs.lemmas.Bool.{and_parts, and_from, eqb-true, eq-eqb}
use Rattle.std.proofs.lemmas.Slice.Eq.{bytes_eq-Decides}
use Rattle.reassembly.specs.Segments.{Key, key_of, same_key}
use Rattle.reassembly.specs.Reassembly.{is_of}
use Rattle.reassembly.specs.declared.process.Process.{Process}

pub key_same : (k l : Key) → same_key k l ≡ true → k ≡ l
key_same k l e =
    let parts = and_parts (k.opc == l.opc) (bytes_eq k.reference l.reference && bytes_eq k.calling l.calling) e in
    let more = and_parts (bytes_eq k.reference l.reference) (bytes_eq k.calling l.calling) parts.1 in
    let opc : k.opc ≡ l.opc = eqb-true k.opc l.opc parts.0 in
    let reference : k.reference ≡ l.reference = (bytes_eq-Decides k.reference l.reference).0 more.0 in
    let calling : k.calling ≡ l.calling = (bytes_eq-Decides k.calling l.calling).0 more.1 in
    λ i. record { opc = opc i; calling = calling i; reference = reference i }

pub key_own : (k : Key) → same_key k k ≡ true
key_own k =
    and_from _ _ (eq-eqb k.opc k.opc refl) (and_from _ _ ((bytes_eq-Decides k.reference k.reference).1 refl) ((bytes_eq-Decides k.calling k.calling).1 refl))

-- processes of one key are of the same keys
pub of_same : (key shared : Key) (x y : Process) → shared ≡ key_of x.first → is_of shared y ≡ true → is_of key x ≡ is_of key y
of_same key shared x y here there = ap (λ k. same_key key k) (sym here ∙ key_same shared (key_of y.first) there)

-- a process of one key is not of another
pub of_other : (key shared : Key) (y : Process) → same_key key shared ≡ false → is_of shared y ≡ true → is_of key y ≡ false
of_other key shared y other there = ap (λ k. same_key key k) (sym (key_same shared (key_of y.first) there)) ∙ other
