-- What an opening sends is no reset.
use Rattle.std.proofs.Common.{◌≡◌, ℕ, false, List, [], ◌∷◌, Option, Some, None, IfSome, refl, subst}
use Rattle.std.specs.List.{list_any}
use Rattle.plant_core.specs.declared.answer.Answer.{Answer}
use Rattle.plant_core.specs.declared.answer.Answer.TheVariants.{Local, Forward, Refused}
use Rattle.plant_core.specs.declared.terms.Terms.{Terms}
use Rattle.q713_shape.specs.Writing.{octets_of}
use Rattle.q713_codec.specs.Writing.{spelling_of}
use Rattle.section_model.specs.Ends.{Connection}
use Rattle.section_model.specs.Opening.{Wanted, Wish, by_cr, by_user, no_wish, wish_of, fits, Opened, opened_by_cr, opened_by_user, opened}
use Rattle.connection_law.proofs.Flow.Flowing.{either}
use Rattle.hop_law.specs.ClearingLaw.{is_reset}
use Rattle.hop_law.specs.ResetAnswering.{OpeningResetsNone}

ResetsNone : Opened → Type 0
ResetsNone o = IfSome o.connection (λ c. list_any is_reset o.outs ≡ false)

by_cr_none : (terms : Terms) (w : Wanted) (answer : Answer) (references : List ℕ) → ResetsNone (opened_by_cr terms w answer references)
unfolding opened_by_cr ResetsNone spelling_of octets_of
by_cr_none terms w (Refused cause local) references = tt
by_cr_none terms w (Local ssn) [] = tt
by_cr_none terms w (Local ssn) (mine ∷ references) = refl
by_cr_none terms w (Forward point rewrite hop) [] = either ResetsNone (fits w rewrite hop) _ _ (λ _. tt) (λ _. tt)
by_cr_none terms w (Forward point rewrite hop) (mine ∷ []) = either ResetsNone (fits w rewrite hop) _ _ (λ _. tt) (λ _. tt)
by_cr_none terms w (Forward point rewrite hop) (mine ∷ next ∷ references) = either ResetsNone (fits w rewrite hop) _ _ (λ _. refl) (λ _. tt)

by_user_none : (terms : Terms) (ssn tag : ℕ) (w : Wanted) (answer : Answer) (references : List ℕ) → ResetsNone (opened_by_user terms ssn tag w answer references)
unfolding opened_by_user ResetsNone spelling_of octets_of
by_user_none terms ssn tag w (Refused cause local) references = tt
by_user_none terms ssn tag w (Local other) references = tt
by_user_none terms ssn tag w (Forward point rewrite hop) [] = tt
by_user_none terms ssn tag w (Forward point rewrite hop) (mine ∷ references) = refl

opened_none : (terms : Terms) (wish : Wish) (answer : Option Answer) (references : List ℕ) → ResetsNone (opened terms wish answer references)
unfolding opened ResetsNone
opened_none terms (by_cr w) (Some answer) references = by_cr_none terms w answer references
opened_none terms (by_cr w) None references = tt
opened_none terms (by_user ssn tag w) (Some answer) references = by_user_none terms ssn tag w answer references
opened_none terms (by_user ssn tag w) None references = tt
opened_none terms no_wish answer references = tt

pub opening_resets_none : OpeningResetsNone
unfolding ResetsNone
opening_resets_none terms event answer references c is =
    let o = opened terms (wish_of terms event) answer references in
    subst (λ (found : Option Connection). IfSome found (λ c. list_any is_reset o.outs ≡ false)) is (opened_none terms (wish_of terms event) answer references)
