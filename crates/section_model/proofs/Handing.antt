-- What an end hands back.
use Rattle.std.proofs.Common.{◌≡◌, ℕ, zero, suc, ◌&&◌, not, nat_lt, length, Bool, true, false, List, [], ◌∷◌, ◌++◌, fold, if◌then◌else◌, Some, None, refl, subst, sym, ap, ◌∙◌}
use Rattle.relay_base.specs.declared.causes.TheConstants.{RELEASE_ACCESS_CONGESTION}
use Rattle.relay_base.specs.declared.limits.TheConstants.{LONGEST_TEXT}
use Rattle.section_model.specs.declared.cell.Cell.{Cell}
use Rattle.section_model.specs.declared.cell.Cell.TheVariants as cell
use Rattle.section_model.specs.declared.hand.Hand.{Hand}
use Rattle.section_model.specs.declared.hand.Hand.TheVariants as hand
use Rattle.section_model.specs.Ends.{Line, Section, User, Connection, turned, Output, End, wire, owner, Acted, Ticks, is_up, no_effect, gives_then}
use Rattle.section_model.specs.Line.{line_takes, passes_accept, passes_refuse, passes_end, keeps_end, passes_unit, counts_passed}
use Rattle.section_model.specs.Windowed.{Windowed, windowed_takes, queues_unit, passes_expedited, passes_reset, counts_left, sends_expedited}
use Rattle.section_model.specs.UserEnd.{user_takes, tells_confirm, tells_disconnect, collects, tells_expedited, tells_reset, user_counts_left as left_user, output_to}
use Rattle.section_model.specs.declared.cell.UserState.TheVariants.{Gone}
use Rattle.relay_base.specs.declared.words.Tell.TheVariants as tell
use Rattle.section_model.specs.Acting.{section_takes, section_takes_by, user_takes_by, in_windows, line_in, by_line, by_windows, end_takes}
use Rattle.section_model.specs.Coupling.{with_more, other_takes, exchange, settles}
use Rattle.section_model.specs.Laws.{IsAnswer, AreAnswers, hands_of, NoHandIsLost}

answers_either : {X : Type 0} (b : Bool) (r s : X × Acted) → AreAnswers (hands_of r.1) → AreAnswers (hands_of s.1) → AreAnswers (hands_of (if b then r else s).1)
answers_either true r s f g = f
answers_either false r s f g = g

nothing_either : {X : Type 0} (b : Bool) (r s : X × Acted) → hands_of r.1 ≡ [] → hands_of s.1 ≡ [] → hands_of (if b then r else s).1 ≡ []
nothing_either true r s f g = f
nothing_either false r s f g = g

-- the line hands back that a unit left
line_answers : (c : Cell) (h : Hand) (x : Line) → AreAnswers (hands_of (line_takes c h x).1)
unfolding line_takes
line_answers cell.PassAccept h x = takes h
  where
    takes : (h : Hand) → AreAnswers (hands_of (passes_accept h x).1)
    takes (hand.Accept class credit called body importance) = tt
    takes _ = tt
line_answers cell.PassRefuse h x = takes h
  where
    takes : (h : Hand) → AreAnswers (hands_of (passes_refuse h x).1)
    takes (hand.Refuse cause called body importance) = tt
    takes _ = tt
line_answers cell.PassEnd h x = takes h
  where
    takes : (h : Hand) → AreAnswers (hands_of (passes_end h x).1)
    takes (hand.End cause body importance) = tt
    takes _ = tt
line_answers cell.KeepEnd h x = takes h
  where
    takes : (h : Hand) → AreAnswers (hands_of (keeps_end h x).1)
    takes (hand.End cause body importance) = tt
    takes _ = tt
line_answers cell.PassUnit h x = takes h
  where
    takes : (h : Hand) → AreAnswers (hands_of (passes_unit h x).1)
    takes (hand.Unit more body) = (tt, tt)
    takes _ = tt
line_answers cell.Left h x = takes h
  where
    takes : (h : Hand) → AreAnswers (hands_of (counts_passed h x).1)
    takes (hand.Left units expedited) = tt
    takes _ = tt
line_answers _ h x = tt

-- on an answer it hands nothing back
line_ends : (c : Cell) (h : Hand) (x : Line) → IsAnswer h → hands_of (line_takes c h x).1 ≡ []
unfolding line_takes
line_ends cell.PassAccept h x a = takes h
  where
    takes : (h : Hand) → hands_of (passes_accept h x).1 ≡ []
    takes (hand.Accept class credit called body importance) = refl
    takes _ = refl
line_ends cell.PassRefuse h x a = takes h
  where
    takes : (h : Hand) → hands_of (passes_refuse h x).1 ≡ []
    takes (hand.Refuse cause called body importance) = refl
    takes _ = refl
line_ends cell.PassEnd h x a = takes h
  where
    takes : (h : Hand) → hands_of (passes_end h x).1 ≡ []
    takes (hand.End cause body importance) = refl
    takes _ = refl
line_ends cell.KeepEnd h x a = takes h
  where
    takes : (h : Hand) → hands_of (keeps_end h x).1 ≡ []
    takes (hand.End cause body importance) = refl
    takes _ = refl
line_ends cell.PassUnit h x a = takes h a
  where
    takes : (h : Hand) → IsAnswer h → hands_of (passes_unit h x).1 ≡ []
    takes (hand.Unit more body) a = absurd a
    takes _ a = refl
line_ends cell.Left h x a = takes h
  where
    takes : (h : Hand) → hands_of (counts_passed h x).1 ≡ []
    takes (hand.Left units expedited) = refl
    takes _ = refl
line_ends _ h x a = refl

-- the windows hand back that expedited data left
windowed_answers : (c : Cell) (h : Hand) (x : Windowed) → AreAnswers (hands_of (windowed_takes c h x).1)
unfolding windowed_takes
windowed_answers cell.PassUnit h x = takes h
  where
    takes : (h : Hand) → AreAnswers (hands_of (queues_unit h x).1)
    takes (hand.Unit more body) = tt
    takes _ = tt
windowed_answers cell.PassExpedited h x = takes h
  where
    takes : (h : Hand) → AreAnswers (hands_of (passes_expedited h x).1)
    takes (hand.Expedited body) = answers_either (is_up x.head.state && not x.windows.unanswered) (sends_expedited (Some body) x) (record x { windows = record x.windows { waiting = Some body } }, no_effect) (tt, tt) tt
    takes _ = tt
windowed_answers cell.PassReset h x = takes h
  where
    takes : (h : Hand) → AreAnswers (hands_of (passes_reset h x).1)
    takes (hand.Reset cause) = tt
    takes _ = tt
windowed_answers cell.Left h x = takes h
  where
    takes : (h : Hand) → AreAnswers (hands_of (counts_left h x).1)
    takes (hand.Left units true) = tt
    takes (hand.Left units false) = tt
    takes _ = tt
windowed_answers _ h x = tt

-- on an answer the windows hand nothing back
windowed_ends : (c : Cell) (h : Hand) (x : Windowed) → IsAnswer h → hands_of (windowed_takes c h x).1 ≡ []
unfolding windowed_takes
windowed_ends cell.PassUnit h x a = absurd_answer h x a
  where
    absurd_answer : (h : Hand) (x : Windowed) → IsAnswer h → hands_of (queues_unit h x).1 ≡ []
    absurd_answer (hand.Unit more body) x a = refl
    absurd_answer _ x a = refl
windowed_ends cell.PassExpedited h x a = other h a
  where
    other : (h : Hand) → IsAnswer h → hands_of (passes_expedited h x).1 ≡ []
    other (hand.Expedited body) a = absurd a
    other _ a = refl
windowed_ends cell.PassReset h x a = other h
  where
    other : (h : Hand) → hands_of (passes_reset h x).1 ≡ []
    other (hand.Reset cause) = refl
    other _ = refl
windowed_ends cell.Left h x a = other h
  where
    other : (h : Hand) → hands_of (counts_left h x).1 ≡ []
    other (hand.Left units true) = refl
    other (hand.Left units false) = refl
    other _ = refl
windowed_ends _ h x a = refl

section_answers : (ticks : Ticks) (c : Cell) (h : Hand) (x : Section) → AreAnswers (hands_of (section_takes ticks c h x).1)
unfolding section_takes
section_answers ticks c h x =
    answers_either (in_windows c x) (by_windows (windowed_takes c h) x) (by_line (line_takes c h) x)
    (windowed_answers c h (record { head = x.head; windows = x.windows }))
    (line_answers c h (line_in x))

section_ends : (ticks : Ticks) (c : Cell) (h : Hand) (x : Section) → IsAnswer h → hands_of (section_takes ticks c h x).1 ≡ []
unfolding section_takes
section_ends ticks c h x a =
    nothing_either (in_windows c x) (by_windows (windowed_takes c h) x) (by_line (line_takes c h) x)
    (windowed_ends c h (record { head = x.head; windows = x.windows }) a)
    (line_ends c h (line_in x) a)

-- a user's end hands back that a unit or expedited data left, or the end
user_answers : (c : Cell) (h : Hand) (x : User) → AreAnswers (hands_of (user_takes c h x).1)
unfolding user_takes
user_answers cell.TellConfirm h x = takes h
  where
    takes : (h : Hand) → AreAnswers (hands_of (tells_confirm h x).1)
    takes (hand.Accept class credit called body importance) = tt
    takes _ = tt
user_answers cell.TellDisconnect h x = takes h
  where
    takes : (h : Hand) → AreAnswers (hands_of (tells_disconnect h x).1)
    takes (hand.Refuse cause called body importance) = tt
    takes (hand.End cause body importance) = tt
    takes _ = tt
user_answers cell.TellUnit h x = takes h
  where
    takes : (h : Hand) → AreAnswers (hands_of (collects h x).1)
    takes (hand.Unit more body) = by_tests (nat_lt LONGEST_TEXT (length (x.text ++ body))) more
      where
        by_tests : (a b : Bool) → (let r : User × Acted = (if a then (record x { state = Gone }, record { first = hand.End RELEASE_ACCESS_CONGESTION None None ∷ []; outs = output_to x (tell.Disc x.mine RELEASE_ACCESS_CONGESTION None) ∷ []; then = [] })
            else (if b then (record x { text = x.text ++ body }, gives_then [] (hand.Left 1 false ∷ []))
            else (record x { text = [] }, gives_then (output_to x (tell.Text x.mine (x.text ++ body)) ∷ []) (hand.Left 1 false ∷ [])))) in AreAnswers (hands_of r.1))
        by_tests true b = (tt, tt)
        by_tests false true = (tt, tt)
        by_tests false false = (tt, tt)
    takes _ = tt
user_answers cell.TellExpedited h x = takes h
  where
    takes : (h : Hand) → AreAnswers (hands_of (tells_expedited h x).1)
    takes (hand.Expedited body) = (tt, tt)
    takes _ = tt
user_answers cell.TellReset h x = takes h
  where
    takes : (h : Hand) → AreAnswers (hands_of (tells_reset h x).1)
    takes (hand.Reset cause) = tt
    takes _ = tt
user_answers cell.Left h x = takes h
  where
    takes : (h : Hand) → AreAnswers (hands_of (left_user h x).1)
    takes (hand.Left units e) = tt
    takes _ = tt
user_answers _ h x = tt

user_ends : (c : Cell) (h : Hand) (x : User) → IsAnswer h → hands_of (user_takes c h x).1 ≡ []
unfolding user_takes
user_ends cell.TellConfirm h x a = takes h
  where
    takes : (h : Hand) → hands_of (tells_confirm h x).1 ≡ []
    takes (hand.Accept class credit called body importance) = refl
    takes _ = refl
user_ends cell.TellDisconnect h x a = takes h
  where
    takes : (h : Hand) → hands_of (tells_disconnect h x).1 ≡ []
    takes (hand.Refuse cause called body importance) = refl
    takes (hand.End cause body importance) = refl
    takes _ = refl
user_ends cell.TellUnit h x a = takes h a
  where
    takes : (h : Hand) → IsAnswer h → hands_of (collects h x).1 ≡ []
    takes (hand.Unit more body) a = absurd a
    takes _ a = refl
user_ends cell.TellExpedited h x a = takes h a
  where
    takes : (h : Hand) → IsAnswer h → hands_of (tells_expedited h x).1 ≡ []
    takes (hand.Expedited body) a = absurd a
    takes _ a = refl
user_ends cell.TellReset h x a = takes h
  where
    takes : (h : Hand) → hands_of (tells_reset h x).1 ≡ []
    takes (hand.Reset cause) = refl
    takes _ = refl
user_ends cell.Left h x a = takes h
  where
    takes : (h : Hand) → hands_of (left_user h x).1 ≡ []
    takes (hand.Left units e) = refl
    takes _ = refl
user_ends _ h x a = refl

end_answers : (ticks : Ticks) (h : Hand) (e : End) → AreAnswers (hands_of (end_takes ticks h e).1)
end_answers ticks h (wire x) = section_answers ticks (section_takes_by x.head.state h) h x
end_answers ticks h (owner u) = user_answers (user_takes_by u.state h) h u

end_ends : (ticks : Ticks) (h : Hand) (e : End) → IsAnswer h → hands_of (end_takes ticks h e).1 ≡ []
end_ends ticks h (wire x) a = section_ends ticks (section_takes_by x.head.state h) h x a
end_ends ticks h (owner u) a = user_ends (user_takes_by u.state h) h u a

-- So two turns are enough.

abbrev IsEmpty : List Hand → Type 0
IsEmpty [] = Unit {0}
IsEmpty (h ∷ hands) = ⊥

none_in : (one two : List Hand) → one ++ two ≡ [] → (one ≡ []) × (two ≡ [])
none_in [] two e = (refl, e)
none_in (h ∷ one) two e = absurd (subst IsEmpty (sym e) tt)

answers_in : (one two : List Hand) → AreAnswers (one ++ two) → AreAnswers one × AreAnswers two
answers_in [] two a = (tt, a)
answers_in (h ∷ one) two a = let rest = answers_in one two a.1 in ((a.0, rest.0), rest.1)

-- how an exchange goes on
abbrev Goes : Type 0
Goes = End × Acted → End → Connection × List Output

-- two ways to go on, which are the same on what the other end does with these effects
abbrev AreAlike : (Hand → Type 0) → Ticks → Goes → Goes → Type 0
AreAlike Is ticks one two = (h : Hand) (e that : End) → Is h → one (end_takes ticks h e) that ≡ two (end_takes ticks h e) that

abbrev Each : (Hand → Type 0) → List Hand → Type 0
Each Is [] = Unit {0}
Each Is (h ∷ hands) = Is h × Each Is hands

hands_alike : (Is : Hand → Type 0) (ticks : Ticks) (one two : Goes) → AreAlike Is ticks one two → (hands : List Hand) (r : Connection × List Output) → Each Is hands
    → fold (other_takes one ticks) r hands ≡ fold (other_takes two ticks) r hands
hands_alike Is ticks one two alike [] r a = refl
hands_alike Is ticks one two alike (h ∷ hands) r a =
    ap (λ (done : Connection × List Output). fold (other_takes one ticks) (turned done.0, r.1 ++ done.1) hands) (alike h r.0.that r.0.this a.0)
    ∙ hands_alike Is ticks one two alike hands (other_takes two ticks r h) a.1

exchange_alike : (Is : Hand → Type 0) (ticks : Ticks) (m n : ℕ) → AreAlike Is ticks (exchange m ticks) (exchange n ticks) → (acting : End × Acted) (that : End)
    → Each Is acting.1.first → Each Is acting.1.then → exchange (suc m) ticks acting that ≡ exchange (suc n) ticks acting that
unfolding exchange
exchange_alike Is ticks m n alike acting that a b =
    let c : Connection = record { this = acting.0; that = that } in
    ap (λ (r : Connection × List Output). fold (other_takes (exchange m ticks) ticks) (with_more acting.1.outs r) acting.1.then)
    (hands_alike Is ticks (exchange m ticks) (exchange n ticks) alike acting.1.first (c, []) a)
    ∙ hands_alike Is ticks (exchange m ticks) (exchange n ticks) alike acting.1.then
    (with_more acting.1.outs (fold (other_takes (exchange n ticks) ticks) (c, []) acting.1.first)) b

-- where nothing is handed over, where answers are, and where any effects are
nothing_over : (n : ℕ) (ticks : Ticks) (acting : End × Acted) (that : End) → hands_of acting.1 ≡ [] → exchange n ticks acting that ≡ exchange zero ticks acting that
unfolding exchange
nothing_over zero ticks acting that e = refl
nothing_over (suc n) ticks acting that e = emptied acting.1.first acting.1.then (none_in acting.1.first acting.1.then e).0 (none_in acting.1.first acting.1.then e).1
  where
    emptied : (one two : List Hand) → one ≡ [] → two ≡ []
        → fold (other_takes (exchange n ticks) ticks) (with_more acting.1.outs (fold (other_takes (exchange n ticks) ticks) (record { this = acting.0; that = that }, []) one)) two
        ≡ (record { this = acting.0; that = that }, acting.1.outs)
    emptied one two f g = rw (f, g) refl

each_answer : (hands : List Hand) → AreAnswers hands → Each IsAnswer hands
each_answer [] a = tt
each_answer (h ∷ hands) a = (a.0, each_answer hands a.1)

each_hand : (hands : List Hand) → Each (λ h. Unit {0}) hands
each_hand [] = tt
each_hand (h ∷ hands) = (tt, each_hand hands)

answers_over : (n : ℕ) (ticks : Ticks) (acting : End × Acted) (that : End) → AreAnswers (hands_of acting.1) → exchange (suc n) ticks acting that ≡ exchange (suc zero) ticks acting that
answers_over n ticks acting that a =
    let parts = answers_in acting.1.first acting.1.then a in
    exchange_alike IsAnswer ticks n zero (λ h e other is. nothing_over n ticks (end_takes ticks h e) other (end_ends ticks h e is)) acting that
    (each_answer acting.1.first parts.0) (each_answer acting.1.then parts.1)

enough_turns : (more : ℕ) (ticks : Ticks) (acting : End × Acted) (that : End) → exchange (suc (suc more)) ticks acting that ≡ settles ticks acting that
enough_turns more ticks acting that =
    exchange_alike (λ h. Unit {0}) ticks (suc more) (suc zero) (λ h e other is. answers_over more ticks (end_takes ticks h e) other (end_answers ticks h e)) acting that
    (each_hand acting.1.first) (each_hand acting.1.then)

pub no_hand_is_lost : NoHandIsLost
no_hand_is_lost = record { answered = end_answers; ended = end_ends; enough = enough_turns }
