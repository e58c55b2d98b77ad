-- A user's end puts units together.
use Rattle.std.proofs.Common.{◌≡◌, ℕ, Bool, true, false, List, [], ◌++◌, length, if◌then◌else◌, refl}
use Rattle.std.proofs.lemmas.Bool.{le-ltb}
use Rattle.relay_base.specs.declared.limits.TheConstants.{LONGEST_TEXT}
use Rattle.section_model.specs.Ends.{User, gives_then}
use Rattle.section_model.specs.UserEnd.{user_takes, continues, completes, taken}
use Rattle.hop_law.specs.Texts.{joins}
use Rattle.hop_law.specs.TextLaw.{CollectedSo, told_texts}

by_more : (more : Bool) (body : List ℕ) (x : User)
    → (let j = joins (record { texts = []; rest = x.text }) (record { more = more; body = body }) in
    (if more then continues body x else completes body x) ≡ (record x { text = j.rest }, gives_then (told_texts x j.texts) (taken 1 false)))
by_more true body x = refl
by_more false body x = refl

pub collected : CollectedSo
unfolding user_takes
collected x u h = rw (le-ltb LONGEST_TEXT (length (x.text ++ u.body)) h) (by_more u.more u.body x)
