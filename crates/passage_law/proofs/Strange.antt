-- What other connections of two neighbours send is strange to the sections of a connection that are to each other.
use Rattle.std.proofs.Common.{◌≡◌, ◌⊎◌, inl, inr, ℕ, ◌≤◌, true, Option, Some, refl, sym, subst, ap, ◌∙◌, arith}
use Rattle.relay_base.specs.declared.words.Event.{Event}
use Rattle.section_model.specs.declared.cell.Occasion.{Occasion}
use Rattle.section_model.specs.declared.cell.Occasion.TheVariants as on
use Rattle.section_model.specs.Parameters.{Arrival}
use Rattle.section_model.specs.Ends.{Connection}
use Rattle.section_model.specs.Lane.{reference_of}
use Rattle.hop_law.specs.Hop.{is_stray_answer, IsStrange}
use Rattle.passage_law.specs.Naming.{Allowed, NamesArrival}
use Rattle.passage_law.specs.References.{Firsts, Gave, Asks, IsAskedBy, ArePaired, IsSection, IsCrFrom, AnswersTo, allowed}
use Rattle.passage_law.proofs.Referring.{turned_pair, pair_gave}
use Rattle.passage_law.proofs.Freshness.{AreFresh, AtSide, one_point, asked_asks_not, one_pair}

-- what a node may name but on a connection
abbrev pub IsNotOf : Connection → ℕ → Type 0
IsNotOf c mine = (reference_of c.this ≡ Some mine → ⊥) × (reference_of c.that ≡ Some mine → ⊥)

abbrev pub others : Firsts → ℕ → Event → Connection → Allowed
others f i e c = record {
  stands = λ p other mine. IsSection f i p other mine × IsNotOf c mine;
  answers = (allowed f i e).answers;
  asks = (allowed f i e).asks;
}

-- The sections of node i with reference m and of node j with reference o are to each other: CR of the one asked for the other.
pub record ArePartners (f : Firsts) (i j m o : ℕ) (c d : Connection) : Type 0 where
  pub here : AreFresh (f i)
  pub there : AreFresh (f j)
  pub least : (1 ≤ m) × (1 ≤ o)
  pub asks : Asks f i j m
  pub asked : AtSide true (IsAskedBy i m o) (f j)
  pub of_asking : reference_of c.that ≡ Some m
  pub of_asked : reference_of d.this ≡ Some o
  -- the other ends are no sections to the other node
  pub before : (mine : ℕ) → reference_of c.this ≡ Some mine → (1 ≤ mine) × ((q : ℕ) × Gave f i q mine × (q ≡ j → ⊥))
  pub after : (mine : ℕ) → reference_of d.that ≡ Some mine → (1 ≤ mine) × ((q : ℕ) × Gave f j q mine × (q ≡ i → ⊥))

-- an answer outside of a section is ERR or RLC, or it is CREF
pub answers_so : (f : Firsts) (i : ℕ) (e : Event) (o : Occasion) (p x : ℕ) → AnswersTo f i e o p x → (is_stray_answer o ≡ true) ⊎ (IsCrFrom p x e × Asks f p i x)
answers_so f i e on.Err p x answer = inl refl
answers_so f i e on.Rlc p x answer = inl refl
answers_so f i e on.Cref p x answer = inr answer
answers_so f i e _ p x answer = absurd answer

never_none : (mine : ℕ) → mine ≡ 0 → 1 ≤ mine → ⊥
never_none mine none least = omega (arith, none, least)

-- what a node names was given to it, so it names no section to another point
names_no_further : (f : Firsts) (i j q : ℕ) (e : Event) (c : Connection) (a : Arrival) → AreFresh (f j) → 1 ≤ a.parameters.dlr → Gave f j q a.parameters.dlr → NamesArrival (others f i e c) j a → q ≡ i
names_no_further f i j q e c a fresh least gave (inl on_one) = by_known on_one.1.0.4
  where
    by_known : (a.parameters.dlr ≡ 0) ⊎ ArePaired f i on_one.0 j a.parameters.dlr → q ≡ i
    by_known (inl none) = absurd (never_none a.parameters.dlr none least)
    by_known (inr paired) = one_point f j q i a.parameters.dlr fresh gave (pair_gave f j a.parameters.dlr i on_one.0 (turned_pair f i on_one.0 j a.parameters.dlr paired))
names_no_further f i j q e c a fresh least gave (inr answer) = one_point f j q i a.parameters.dlr fresh gave answer.2

-- To the node that was asked.

pub some_is : (a b : ℕ) (x : Option ℕ) → x ≡ Some a → x ≡ Some b → a ≡ b
some_is a b x one other = cc

forward_named : (f : Firsts) (i j m o : ℕ) (c d : Connection) (e : Event) (a : Arrival) → ArePartners f i j m o c d → NamesArrival (others f i e c) j a → o ≡ a.parameters.dlr → is_stray_answer a.occasion ≡ true
forward_named f i j m o c d e a p (inl on_one) same = by_known on_one.1.0.4
  where
    by_known : (a.parameters.dlr ≡ 0) ⊎ ArePaired f i on_one.0 j a.parameters.dlr → is_stray_answer a.occasion ≡ true
    by_known (inl none) = absurd (never_none o (same ∙ none) p.least.1)
    by_known (inr paired) =
        let pair : ArePaired f j o i on_one.0 = turned_pair f i on_one.0 j o (subst (ArePaired f i on_one.0 j) (sym same) paired) in
        absurd (on_one.1.1.1 (p.of_asking ∙ ap Some (one_pair f j i o m on_one.0 p.there p.asked pair)))
forward_named f i j m o c d e a p (inr answer) same = by_answer (answers_so f i e a.occasion j a.parameters.dlr answer.1)
  where
    by_answer : (is_stray_answer a.occasion ≡ true) ⊎ (IsCrFrom j a.parameters.dlr e × Asks f j i a.parameters.dlr) → is_stray_answer a.occasion ≡ true
    by_answer (inl stray) = stray
    by_answer (inr cref) = absurd (asked_asks_not f j i i m o p.there p.asked (subst (Asks f j i) (sym same) cref.1))

pub strange_forward : (f : Firsts) (i j m o : ℕ) (c d : Connection) (e : Event) (a : Arrival) → ArePartners f i j m o c d → NamesArrival (others f i e c) j a → IsStrange d (Some a)
strange_forward f i j m o c d e a p names (inl this) = forward_named f i j m o c d e a p names (some_is o a.parameters.dlr (reference_of d.this) p.of_asked this)
strange_forward f i j m o c d e a p names (inr that) =
    let after = p.after a.parameters.dlr that in
    absurd (after.1.2 (names_no_further f i j after.1.0 e c a p.there after.0 after.1.1 names))

-- And back, where CR of the asking section came once, and isn't the event.

back_named : (f : Firsts) (i j m o : ℕ) (c d : Connection) (e : Event) (a : Arrival) → ArePartners f i j m o c d → ((other : ℕ) → AtSide true (IsAskedBy i m other) (f j) → o ≡ other) → (IsCrFrom i m e → ⊥)
    → NamesArrival (others f j e d) i a → m ≡ a.parameters.dlr → is_stray_answer a.occasion ≡ true
back_named f i j m o c d e a p once no_cr (inl on_one) same = by_known on_one.1.0.4
  where
    by_pair : ArePaired f j on_one.0 i m → is_stray_answer a.occasion ≡ true
    by_pair (inl asked) = absurd (on_one.1.1.0 (p.of_asked ∙ ap Some (once on_one.0 asked.0)))
    by_pair (inr asked) = absurd (asked_asks_not f i j j on_one.0 m p.here asked.0 p.asks)

    by_known : (a.parameters.dlr ≡ 0) ⊎ ArePaired f j on_one.0 i a.parameters.dlr → is_stray_answer a.occasion ≡ true
    by_known (inl none) = absurd (never_none m (same ∙ none) p.least.0)
    by_known (inr paired) = by_pair (subst (ArePaired f j on_one.0 i) (sym same) paired)
back_named f i j m o c d e a p once no_cr (inr answer) same = by_answer (answers_so f j e a.occasion i a.parameters.dlr answer.1)
  where
    by_answer : (is_stray_answer a.occasion ≡ true) ⊎ (IsCrFrom i a.parameters.dlr e × Asks f i j a.parameters.dlr) → is_stray_answer a.occasion ≡ true
    by_answer (inl stray) = stray
    by_answer (inr cref) = absurd (no_cr (subst (λ k. IsCrFrom i k e) (sym same) cref.0))

pub strange_back : (f : Firsts) (i j m o : ℕ) (c d : Connection) (e : Event) (a : Arrival) → ArePartners f i j m o c d → ((other : ℕ) → AtSide true (IsAskedBy i m other) (f j) → o ≡ other) → (IsCrFrom i m e → ⊥)
    → NamesArrival (others f j e d) i a → IsStrange c (Some a)
strange_back f i j m o c d e a p once no_cr names (inr that) = back_named f i j m o c d e a p once no_cr names (some_is m a.parameters.dlr (reference_of c.that) p.of_asking that)
strange_back f i j m o c d e a p once no_cr names (inl this) =
    let before = p.before a.parameters.dlr this in
    absurd (before.1.2 (names_no_further f j i before.1.0 e d a p.here before.0 before.1.1 names))
