-- What the acts of an end name.
use Rattle.std.proofs.Common.{◌≡◌, inl, inr, ℕ, suc, ◌+◌, ◌<◌, ◌==◌, ◌&&◌, ◌||◌, not, nat_le, nat_lt, Bool, true, false, List, [], ◌∷◌, ◌++◌, length, take, if◌then◌else◌, Option, Some, None, IfSome, Result, Ok, Err, IfOk, unwrap_or, is_some, refl, sym, subst}
use Rattle.std.proofs.lemmas.Bool.{false≢true, and_parts}
use Rattle.relay_base.specs.declared.causes.TheConstants.{ERROR_CLASS_MISMATCH, ERROR_INCONSISTENT_REFERENCE, RELEASE_INACTIVITY_EXPIRED, RELEASE_INCONSISTENT_DATA, RELEASE_RESET_EXPIRED, RELEASE_UNQUALIFIED, RESET_INCORRECT_RECEIVE_NUMBER, RESET_OUT_OF_WINDOW, RESET_REMOTE_PROCEDURE_ERROR}
use Rattle.relay_base.specs.declared.limits.TheConstants.{LONGEST_TEXT, REFERENCES}
use Rattle.relay_base.specs.declared.words.Output.{Output}
use Rattle.relay_base.specs.declared.words.Output.TheVariants.{Sent}
use Rattle.relay_base.specs.declared.words.ReadFault.{ReadFault}
use Rattle.relay_base.specs.declared.words.Request.{Request}
use Rattle.relay_base.specs.declared.words.Request.TheVariants as request
use Rattle.plant_core.specs.declared.terms.Ticks.{Ticks}
use Rattle.q713_codec.specs.Names.{Message}
use Rattle.q713_codec.specs.declared.message.Message.TheVariants.{Cr, Ed, Rsr, Err as Error, It}
use Rattle.q713_codec.specs.Reading.{reading_of}
use Rattle.q713_codec.specs.Writing.{spelling_of}
use Rattle.section_flow.specs.Windows.{is_valid, may_leave, wrong_number}
use Rattle.section_model.specs.declared.cell.Cell.{Cell}
use Rattle.section_model.specs.declared.cell.Cell.TheVariants as cell
use Rattle.section_model.specs.declared.cell.Occasion.{Occasion}
use Rattle.section_model.specs.declared.cell.Occasion.TheVariants as on
use Rattle.section_model.specs.declared.cell.SectionState.{SectionState}
use Rattle.section_model.specs.declared.cell.SectionState.TheVariants.{Asked, Asking, Waning}
use Rattle.section_model.specs.declared.hand.Acted.{Acted}
use Rattle.section_model.specs.declared.hand.Hand.{Hand}
use Rattle.section_model.specs.declared.hand.Hand.TheVariants as hand
use Rattle.section_model.specs.declared.hand.KeptRelease.{KeptRelease}
use Rattle.section_model.specs.Table.{section_row, section_cell}
use Rattle.section_model.specs.Parameters.{Parameters, Arrival, arrival_of}
use Rattle.section_model.specs.Ends.{End, wire, owner, DataUnit, Line, SectionHead, Section, User, only_cause, is_up, is_reached}
use Rattle.section_model.specs.Line.{credit_of, sent_on, rlsd, rlc, reached, line_hears, line_fires, line_takes}
use Rattle.section_model.specs.UserEnd.{user_asks, user_takes, collects}
use Rattle.section_model.specs.Windowed.{Windowed, sequence, resets, is_next, is_used_up, sends_expedited, windowed_hears, windowed_fires, windowed_takes, numbered, leaves, acknowledges}
use Rattle.section_model.specs.Acting.{timed, line_in, in_windows, section_hears, section_fires, section_takes, section_takes_by, user_takes_by, end_takes}
use Rattle.section_model.specs.Step.{names_both, ends_both, knows_other, names_another, is_of_other_class, checked, hears_checked, in_touch}
use Rattle.connection_law.proofs.Flow.Flowing.{either}
use Rattle.passage_law.specs.Naming.{Allowed, NamesArrival, AsksFrom, NamesMessage, Names, AllName, StandsOn, AreReferences}
use Rattle.passage_law.proofs.Reading.{IsFor, IsNoCr, IsReadAs, Reads, reads_cc, reads_cref, reads_rlsd, reads_rlc, reads_dt1, reads_dt2, reads_ak, reads_ed, reads_ea, reads_rsr, reads_rsc, reads_err, reads_it}
use Rattle.hop_law.proofs.Lists.{all_joined}

-- CC alone makes the other end known
abbrev is_learning : Cell → Bool
is_learning cell.Confirm = true
is_learning cell.ConfirmLate = true
is_learning _ = false

by_cc_alone : (o : Occasion) (s : SectionState) → is_learning (section_cell s o) ≡ true → o ≡ on.Cc
unfolding section_row
by_cc_alone on.Cc s learning = refl
by_cc_alone on.Cref Asked learning = absurd (false≢true learning)
by_cc_alone on.Cref _ learning = absurd (false≢true learning)
by_cc_alone on.Rlsd Asked learning = absurd (false≢true learning)
by_cc_alone on.Rlsd _ learning = absurd (false≢true learning)
by_cc_alone on.Rlc Asked learning = absurd (false≢true learning)
by_cc_alone on.Rlc _ learning = absurd (false≢true learning)
by_cc_alone on.Dt1 Asked learning = absurd (false≢true learning)
by_cc_alone on.Dt1 _ learning = absurd (false≢true learning)
by_cc_alone on.Dt2 Asked learning = absurd (false≢true learning)
by_cc_alone on.Dt2 _ learning = absurd (false≢true learning)
by_cc_alone on.Ak Asked learning = absurd (false≢true learning)
by_cc_alone on.Ak _ learning = absurd (false≢true learning)
by_cc_alone on.Ed Asked learning = absurd (false≢true learning)
by_cc_alone on.Ed _ learning = absurd (false≢true learning)
by_cc_alone on.Ea Asked learning = absurd (false≢true learning)
by_cc_alone on.Ea _ learning = absurd (false≢true learning)
by_cc_alone on.Rsr Asked learning = absurd (false≢true learning)
by_cc_alone on.Rsr _ learning = absurd (false≢true learning)
by_cc_alone on.Rsc Asked learning = absurd (false≢true learning)
by_cc_alone on.Rsc _ learning = absurd (false≢true learning)
by_cc_alone on.Err Asked learning = absurd (false≢true learning)
by_cc_alone on.Err _ learning = absurd (false≢true learning)
by_cc_alone on.It Asked learning = absurd (false≢true learning)
by_cc_alone on.It _ learning = absurd (false≢true learning)
by_cc_alone on.ConnectFires Asked learning = absurd (false≢true learning)
by_cc_alone on.ConnectFires _ learning = absurd (false≢true learning)
by_cc_alone on.ResetFires Asked learning = absurd (false≢true learning)
by_cc_alone on.ResetFires _ learning = absurd (false≢true learning)
by_cc_alone on.IarFires Asked learning = absurd (false≢true learning)
by_cc_alone on.IarFires _ learning = absurd (false≢true learning)
by_cc_alone on.IasFires Asked learning = absurd (false≢true learning)
by_cc_alone on.IasFires _ learning = absurd (false≢true learning)
by_cc_alone on.RelFires Asked learning = absurd (false≢true learning)
by_cc_alone on.RelFires _ learning = absurd (false≢true learning)
by_cc_alone on.IntFires Asked learning = absurd (false≢true learning)
by_cc_alone on.IntFires _ learning = absurd (false≢true learning)
by_cc_alone on.RepeatFires Asked learning = absurd (false≢true learning)
by_cc_alone on.RepeatFires _ learning = absurd (false≢true learning)
by_cc_alone on.AcceptComes Asked learning = absurd (false≢true learning)
by_cc_alone on.AcceptComes _ learning = absurd (false≢true learning)
by_cc_alone on.RefuseComes Asked learning = absurd (false≢true learning)
by_cc_alone on.RefuseComes _ learning = absurd (false≢true learning)
by_cc_alone on.EndComes Asked learning = absurd (false≢true learning)
by_cc_alone on.EndComes _ learning = absurd (false≢true learning)
by_cc_alone on.UnitComes Asked learning = absurd (false≢true learning)
by_cc_alone on.UnitComes _ learning = absurd (false≢true learning)
by_cc_alone on.ExpeditedComes Asked learning = absurd (false≢true learning)
by_cc_alone on.ExpeditedComes _ learning = absurd (false≢true learning)
by_cc_alone on.ResetComes Asked learning = absurd (false≢true learning)
by_cc_alone on.ResetComes _ learning = absurd (false≢true learning)
by_cc_alone on.DoneComes Asked learning = absurd (false≢true learning)
by_cc_alone on.DoneComes _ learning = absurd (false≢true learning)

pub knows_reached : (s : SectionState) → knows_other s ≡ true → is_reached s ≡ true
knows_reached Asking knows = absurd (false≢true knows)
knows_reached Waning knows = absurd (false≢true knows)
knows_reached _ knows = refl

module _ (A : Allowed) (bits : AreReferences A) where
  abbrev Own : SectionHead → Type 0
  Own x = A.stands x.point x.other x.mine

  abbrev All : List Output → Type 0
  All outs = AllName A outs

  -- A message on a section.
  no_cr : (point : ℕ) (m : Message) → IsNoCr m → AsksFrom A point m
  no_cr point (Cr slr class called credit calling body hop importance) none = absurd none
  no_cr point _ none = tt

  on_section : (x : SectionHead) (m : Message) (o : Occasion) → Own x → Reads m x.other x.mine o → Names A (sent_on x m)
  on_section x m o own reads = by_reading (reading_of (spelling_of m)) reads
    where
      by_arrival : (found : Option Arrival) → IfSome found (IsFor x.other x.mine o) → IfSome found (NamesArrival A x.point)
      by_arrival None r = tt
      by_arrival (Some a) r = inl (x.mine, subst (λ d. A.stands x.point d x.mine) (sym r.0) own, r.1)

      by_reading : (read : Result Message ReadFault) → IsReadAs x.other x.mine o read → IfOk read (NamesMessage A x.point)
      by_reading (Err fault) r = tt
      by_reading (Ok message) r = (by_arrival (arrival_of message) r.0, no_cr x.point message r.1)

  other_fits : (x : SectionHead) → Own x → x.other < REFERENCES
  other_fits x own = (bits.stands x.point x.other x.mine own).0

  mine_fits : (x : SectionHead) → Own x → x.mine < REFERENCES
  mine_fits x own = (bits.stands x.point x.other x.mine own).1

  sends_rlsd : (x : SectionHead) (kept : KeptRelease) → Own x → Names A (rlsd x kept)
  sends_rlsd x kept own = on_section x _ on.Rlsd own (reads_rlsd x.other x.mine kept.cause kept.body kept.importance (other_fits x own) (mine_fits x own))

  sends_rlc : (x : SectionHead) → Own x → Names A (rlc x)
  sends_rlc x own = on_section x _ on.Rlc own (reads_rlc x.other x.mine (other_fits x own) (mine_fits x own))

  -- The line.

  abbrev LineNames : Line × Acted → Type 0
  LineNames done = Own done.0.head × All done.1.outs

  releases_names : (cause : ℕ) (x : Line) → Own x.head → Own x.head × All (rlsd x.head (only_cause cause) ∷ [])
  releases_names cause x own = (own, (sends_rlsd x.head (only_cause cause) own, tt))

  line_hears_names : (c : Cell) (point : ℕ) (m : Parameters) (x : Line) → Own x.head → (is_learning c ≡ true → A.stands point m.slr x.head.mine) → LineNames (line_hears c point m x)
  unfolding line_hears
  line_hears_names cell.Confirm point m x own learns =
      either LineNames ((m.class == 2 || m.class == 3) && nat_le m.class x.head.class) _ _ (λ _. (learns refl, tt))
      (λ _. releases_names RELEASE_INCONSISTENT_DATA (reached point m.slr x) (learns refl))
  line_hears_names cell.ConfirmLate point m x own learns = (learns refl, (sends_rlsd (reached point m.slr x).head (only_cause x.kept.cause) (learns refl), tt))
  line_hears_names cell.Released point m x own learns = (own, (sends_rlc x.head own, tt))
  line_hears_names cell.ReleaseCollision point m x own learns = (own, (sends_rlc x.head own, tt))
  line_hears_names cell.ErrorReceived point m x own learns =
      either LineNames (m.cause == ERROR_CLASS_MISMATCH) _ _ (λ _. releases_names RELEASE_UNQUALIFIED x own) (λ _. (own, tt))
  line_hears_names cell.TestReceived point m x own learns =
      either LineNames (m.slr == x.head.other && m.class == x.head.class) _ _ (λ _. (own, tt)) (λ _. releases_names RELEASE_INCONSISTENT_DATA x own)
  line_hears_names cell.Discard point m x own learns = (own, (tt, tt))
  line_hears_names _ point m x own learns = (own, tt)

  sends_test : (x : SectionHead) (one two : ℕ) → Own x → Names A (sent_on x (It x.other x.mine x.class (one ∷ two ∷ []) x.credit))
  sends_test x one two own = on_section x _ on.It own (reads_it x.other x.mine x.class one two x.credit (other_fits x own) (mine_fits x own))

  line_fires_names : (c : Cell) (x : Line) → Own x.head → LineNames (line_fires c x)
  unfolding line_fires
  line_fires_names cell.ResetExpired x own = releases_names RELEASE_RESET_EXPIRED x own
  line_fires_names cell.PeerSilent x own = releases_names RELEASE_INACTIVITY_EXPIRED x own
  line_fires_names cell.SendTest x own = (own, (sends_test x.head 0 0 own, tt))
  line_fires_names cell.ReleaseUnanswered x own = (own, (sends_rlsd x.head x.kept own, tt))
  line_fires_names cell.RepeatRelease x own = (own, (sends_rlsd x.head x.kept own, tt))
  line_fires_names _ x own = (own, tt)

  line_takes_names : (c : Cell) (h : Hand) (x : Line) → Own x.head → LineNames (line_takes c h x)
  unfolding line_takes
  line_takes_names cell.PassAccept (hand.Accept class credit called body importance) x own =
      (own, (on_section x.head _ on.Cc own (reads_cc x.head.other x.head.mine class (credit_of class credit) called body importance (other_fits x.head own) (mine_fits x.head own)), tt))
  line_takes_names cell.PassAccept _ x own = (own, tt)
  line_takes_names cell.PassRefuse (hand.Refuse cause called body importance) x own =
      (own, (on_section x.head _ on.Cref own (reads_cref x.head.other cause called body importance x.head.mine (other_fits x.head own)), tt))
  line_takes_names cell.PassRefuse _ x own = (own, tt)
  line_takes_names cell.PassEnd (hand.End cause body importance) x own = (own, (sends_rlsd x.head (record { cause = cause; body = body; importance = importance }) own, tt))
  line_takes_names cell.PassEnd _ x own = (own, tt)
  line_takes_names cell.KeepEnd (hand.End cause body importance) x own = (own, tt)
  line_takes_names cell.KeepEnd _ x own = (own, tt)
  line_takes_names cell.PassUnit (hand.Unit more body) x own =
      (own, (on_section x.head _ on.Dt1 own (reads_dt1 x.head.other (if more then 1 else 0) body x.head.mine (other_fits x.head own)), tt))
  line_takes_names cell.PassUnit _ x own = (own, tt)
  line_takes_names cell.Left (hand.Left units expedited) x own = (own, tt)
  line_takes_names cell.Left _ x own = (own, tt)
  line_takes_names _ h x own = (own, tt)

  -- The windows.

  abbrev WindowsName : Windowed × Acted → Type 0
  WindowsName done = Own done.0.head × All done.1.outs

  sends_reset : (x : SectionHead) (cause : ℕ) → Own x → Names A (sent_on x (Rsr x.other x.mine cause))
  sends_reset x cause own = on_section x _ on.Rsr own (reads_rsr x.other x.mine cause (other_fits x own) (mine_fits x own))

  resets_names : (cause : ℕ) (x : Windowed) → Own x.head → WindowsName (resets cause x)
  resets_names cause x own = (own, (sends_reset x.head cause own, tt))

  sends_ed : (x : SectionHead) (body : List ℕ) → Own x → Names A (sent_on x (Ed x.other body))
  sends_ed x body own = on_section x _ on.Ed own (reads_ed x.other body x.mine (other_fits x own))

  expedited_names : (body : Option (List ℕ)) (x : Windowed) → Own x.head → WindowsName (sends_expedited body x)
  expedited_names None x own = (own, tt)
  expedited_names (Some body) x own = (own, (sends_ed x.head body own, tt))

  windowed_hears_names : (c : Cell) (m : Parameters) (x : Windowed) → Own x.head → WindowsName (windowed_hears c m x)
  unfolding windowed_hears
  windowed_hears_names cell.TakeNumberedData m x own =
      either WindowsName (not (is_next m x)) _ _ (λ _. resets_names (wrong_number x.windows) x own)
      (λ _. either WindowsName (is_used_up x) _ _ (λ _. resets_names RESET_OUT_OF_WINDOW x own)
      (λ _. either WindowsName (not (is_valid m.pr x.windows)) _ _ (λ _. resets_names RESET_INCORRECT_RECEIVE_NUMBER x own) (λ _. (own, tt))))
  windowed_hears_names cell.TakeAcknowledgement m x own =
      either WindowsName (is_valid m.pr x.windows) _ _ (λ _. (own, tt)) (λ _. resets_names RESET_INCORRECT_RECEIVE_NUMBER x own)
  windowed_hears_names cell.TakeExpedited m x own =
      either WindowsName x.windows.owed _ _ (λ _. resets_names RESET_REMOTE_PROCEDURE_ERROR x own) (λ _. (own, tt))
  windowed_hears_names cell.TakeExpeditedAcknowledgement m x own =
      either WindowsName x.windows.unanswered _ _
      (λ _. expedited_names x.windows.waiting (record x { windows = record x.windows { unanswered = false } }) own) (λ _. (own, (tt, tt)))
  windowed_hears_names cell.ResetByPeer m x own = (own, (on_section x.head _ on.Rsc own (reads_rsc x.head.other x.head.mine (other_fits x.head own) (mine_fits x.head own)), tt))
  windowed_hears_names cell.ResetComplete m x own = (own, tt)
  windowed_hears_names _ m x own = (own, tt)

  windowed_fires_names : (x : Windowed) → Own x.head → WindowsName (windowed_fires x)
  unfolding windowed_fires
  windowed_fires_names x own = (own, (sends_test x.head (sequence x.windows.sent) (sequence x.windows.passed) own, tt))

  windowed_takes_names : (c : Cell) (h : Hand) (x : Windowed) → Own x.head → WindowsName (windowed_takes c h x)
  unfolding windowed_takes
  windowed_takes_names cell.PassUnit (hand.Unit more body) x own = (own, tt)
  windowed_takes_names cell.PassUnit _ x own = (own, tt)
  windowed_takes_names cell.PassExpedited (hand.Expedited body) x own =
      either WindowsName (is_up x.head.state && not x.windows.unanswered) _ _ (λ _. expedited_names (Some body) x own) (λ _. (own, tt))
  windowed_takes_names cell.PassExpedited _ x own = (own, tt)
  windowed_takes_names cell.PassReset (hand.Reset cause) x own = (own, (sends_reset x.head cause own, tt))
  windowed_takes_names cell.PassReset _ x own = (own, tt)
  windowed_takes_names cell.Left (hand.Left units true) x own = (own, (on_section x.head _ on.Ea own (reads_ea x.head.other x.head.mine (other_fits x.head own)), tt))
  windowed_takes_names cell.Left (hand.Left units false) x own = (own, tt)
  windowed_takes_names cell.Left _ x own = (own, tt)
  windowed_takes_names _ h x own = (own, tt)

  numbered_names : (x : SectionHead) (ps pr : ℕ) (units : List DataUnit) → Own x → All (numbered x ps pr units)
  numbered_names x ps pr [] own = tt
  numbered_names x ps pr (u ∷ units) own =
      (on_section x _ on.Dt2 own (reads_dt2 x.other (sequence ps) (sequence pr + (if u.more then 1 else 0)) u.body x.mine (other_fits x own)), numbered_names x (suc ps) pr units own)

  pub leaves_names : (x : Windowed) → Own x.head → WindowsName (leaves x)
  unfolding leaves
  leaves_names x own =
      let w = x.windows in (
        own,
        all_joined (Names A) (numbered x.head w.sent w.passed (take (may_leave w) w.waits)) _ (numbered_names x.head w.sent w.passed (take (may_leave w) w.waits) own)
            (either All (is_some w.waiting && not w.unanswered) _ _ (λ _. (sends_ed x.head (unwrap_or w.waiting []) own, tt)) (λ _. tt)),
      )

  pub acknowledges_names : (x : Windowed) → Own x.head → WindowsName (acknowledges x)
  unfolding acknowledges
  acknowledges_names x own =
      either WindowsName (x.windows.passed == x.windows.told) _ _ (λ _. (own, tt))
      (λ _. (own, (on_section x.head _ on.Ak own (reads_ak x.head.other (sequence x.windows.passed) x.head.credit x.head.mine (other_fits x.head own)), tt)))

  -- A section.

  abbrev EndNames : End × Acted → Type 0
  EndNames done = StandsOn A.stands done.0 × All done.1.outs

  section_hears_names : (ticks : Ticks) (c : Cell) (point : ℕ) (m : Parameters) (x : Section) → Own x.head → (is_learning c ≡ true → A.stands point m.slr x.head.mine) → EndNames (section_hears ticks c point m x)
  unfolding section_hears
  section_hears_names ticks c point m x own learns =
      either (λ (done : Section × Acted). EndNames (timed ticks x done)) (in_windows c x) _ _
      (λ _. windowed_hears_names c m (record { head = x.head; windows = x.windows }) own) (λ _. line_hears_names c point m (line_in x) own learns)

  pub section_fires_names : (ticks : Ticks) (c : Cell) (x : Section) → Own x.head → EndNames (section_fires ticks c x)
  unfolding section_fires
  section_fires_names ticks c x own =
      either (λ (done : Section × Acted). EndNames (timed ticks x done)) (in_windows c x) _ _
      (λ _. windowed_fires_names (record { head = x.head; windows = x.windows }) own) (λ _. line_fires_names c (line_in x) own)

  section_takes_names : (ticks : Ticks) (c : Cell) (h : Hand) (x : Section) → Own x.head → EndNames (section_takes ticks c h x)
  unfolding section_takes
  section_takes_names ticks c h x own =
      either (λ (done : Section × Acted). EndNames (timed ticks x done)) (in_windows c x) _ _
      (λ _. windowed_takes_names c h (record { head = x.head; windows = x.windows }) own) (λ _. line_takes_names c h (line_in x) own)

  -- The checks before the cell: ERR answers RLSD or RSR whose source is another one.

  pub answer_names : (point sls reference slr : ℕ) (o : Occasion) (m : Message) → A.answers o point reference → Reads m reference slr o → Names A (Sent point sls (spelling_of m))
  answer_names point sls reference slr o m given reads = by_reading (reading_of (spelling_of m)) reads
    where
      by_arrival : (found : Option Arrival) → IfSome found (IsFor reference slr o) → IfSome found (NamesArrival A point)
      by_arrival None r = tt
      by_arrival (Some a) r = inr (subst (λ p. A.answers p point a.parameters.dlr) (sym r.2) (subst (A.answers o point) (sym r.0) given))

      by_reading : (read : Result Message ReadFault) → IsReadAs reference slr o read → IfOk read (NamesMessage A point)
      by_reading (Err fault) r = tt
      by_reading (Ok message) r = (by_arrival (arrival_of message) r.0, no_cr point message r.1)

  pub checked_names : (o : Occasion) (m : Parameters) (x : SectionHead) → (names_both o ≡ true → knows_other x.state ≡ true → A.answers on.Err x.point m.slr) → IfSome (checked o m x) (Names A)
  checked_names o m x given =
      either (λ (c : Option Output). IfSome c (Names A)) (names_both o && names_another m x) _ _
      (λ is.
      let both = and_parts (names_both o) (names_another m x) is in
      let answers : A.answers on.Err x.point m.slr = given both.0 (and_parts (knows_other x.state) (not (m.slr == x.other)) both.1).0 in
      answer_names x.point x.sls m.slr 0 on.Err (Error m.slr ERROR_INCONSISTENT_REFERENCE) answers
      (reads_err m.slr ERROR_INCONSISTENT_REFERENCE 0 (bits.answers on.Err x.point m.slr answers)))
      (λ _. either (λ (c : Option Output). IfSome c (Names A)) (ends_both o && names_another m x) _ _ (λ _. tt)
      (λ _. either (λ (c : Option Output). IfSome c (Names A)) (is_of_other_class o x) _ _ (λ _. tt) (λ _. tt)))

  pub hears_names : (ticks : Ticks) (o : Occasion) (point : ℕ) (m : Parameters) (x : Section) (c : Option Output) → Own x.head → (o ≡ on.Cc → A.stands point m.slr x.head.mine) → IfSome c (Names A)
      → EndNames (hears_checked ticks o point m (in_touch ticks x) c)
  hears_names ticks o point m x (Some out) own learns named = (own, (named, tt))
  hears_names ticks o point m x None own learns named =
      section_hears_names ticks (section_cell x.head.state o) point m (in_touch ticks x) own (λ learning. learns (by_cc_alone o x.head.state learning))

  -- A user's end sends nothing.

  abbrev UserNames : User × Acted → Type 0
  UserNames done = All done.1.outs

  collects_names : (h : Hand) (x : User) → UserNames (collects h x)
  collects_names (hand.Unit more body) x =
      either UserNames (nat_lt LONGEST_TEXT (length (x.text ++ body))) _ _ (λ _. (tt, tt)) (λ _. either UserNames more _ _ (λ _. tt) (λ _. (tt, tt)))
  collects_names _ x = tt

  user_takes_names : (c : Cell) (h : Hand) (x : User) → UserNames (user_takes c h x)
  unfolding user_takes
  user_takes_names cell.TellConfirm (hand.Accept class credit called body importance) x = (tt, tt)
  user_takes_names cell.TellConfirm _ x = tt
  user_takes_names cell.TellDisconnect (hand.Refuse cause called body importance) x = (tt, tt)
  user_takes_names cell.TellDisconnect (hand.End cause body importance) x = (tt, tt)
  user_takes_names cell.TellDisconnect _ x = tt
  user_takes_names cell.TellUnit h x = collects_names h x
  user_takes_names cell.TellExpedited (hand.Expedited body) x = (tt, tt)
  user_takes_names cell.TellExpedited _ x = tt
  user_takes_names cell.TellReset (hand.Reset cause) x = (tt, tt)
  user_takes_names cell.TellReset _ x = tt
  user_takes_names cell.TellResetDone h x = (tt, tt)
  user_takes_names cell.Left (hand.Left units is_expedited) x = tt
  user_takes_names cell.Left _ x = tt
  user_takes_names _ h x = tt

  pub user_asks_names : (c : Cell) (r : Request) (x : User) → UserNames (user_asks c r x)
  unfolding user_asks
  user_asks_names cell.UserAccepts (request.Accept mine class credit body) x = tt
  user_asks_names cell.UserAccepts _ x = tt
  user_asks_names cell.UserRefuses (request.Refuse mine cause body) x = tt
  user_asks_names cell.UserRefuses _ x = tt
  user_asks_names cell.UserSends (request.Send mine body) x = tt
  user_asks_names cell.UserSends _ x = tt
  user_asks_names cell.UserExpedites (request.Expedite mine body) x = tt
  user_asks_names cell.UserExpedites _ x = tt
  user_asks_names cell.UserDisconnects (request.Disc mine cause body) x = tt
  user_asks_names cell.UserDisconnects _ x = tt
  user_asks_names _ r x = tt

  pub takes_names : (ticks : Ticks) (h : Hand) (e : End) → StandsOn A.stands e → EndNames (end_takes ticks h e)
  takes_names ticks h (wire x) own = section_takes_names ticks (section_takes_by x.head.state h) h x own
  takes_names ticks h (owner u) own = (tt, user_takes_names (user_takes_by u.state h) h u)
