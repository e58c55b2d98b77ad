-- What a user's end does (Q.711): its requests, the cutting of a text into units, and the putting together of one (Q.714, 3.5.3).
use Rattle.std.specs.Prelude.{ℕ, ◌+◌, ◌-◌, ◌*◌, ◌/◌, nat_lt, Bool, true, false, List, [], ◌∷◌, ◌++◌, length, take, drop, map, if◌then◌else◌, Option, Some, None}
use Rattle.std.specs.List.{range_with_len}
use Rattle.relay_base.specs.declared.causes.TheConstants.{RELEASE_ACCESS_CONGESTION, RESET_END_USER}
use Rattle.relay_base.specs.declared.words.Output.TheVariants.{Told}
use Rattle.relay_base.specs.declared.words.Tell.{Tell}
use Rattle.relay_base.specs.declared.words.Tell.TheVariants as tell
use Rattle.relay_base.specs.declared.words.Request.{Request}
use Rattle.relay_base.specs.declared.words.Request.TheVariants as request
use Rattle.section_model.specs.declared.hand.Hand.TheVariants as hand
use Rattle.section_model.specs.declared.cell.Cell.{Cell}
use Rattle.section_model.specs.declared.cell.Cell.TheVariants as cell
use Rattle.relay_base.specs.declared.limits.TheConstants.{LONGEST_TEXT}
use Rattle.section_model.specs.declared.limits.TheConstants.{LONGEST_UNIT}
use Rattle.section_model.specs.declared.cell.UserState.TheVariants.{Ready, Renewing, Gone}
use Rattle.section_flow.specs.declared.unit.Unit.{Unit as DataUnit}
use Rattle.section_model.specs.declared.hand.Acted.{Acted}
use Rattle.section_model.specs.declared.hand.Hand.{Hand}
use Rattle.relay_base.specs.declared.words.Output.{Output}
use Rattle.section_model.specs.Ends.{User, no_effect, gives, gives_then}
use Rattle.section_model.specs.Line.{agreed_credit}

abbrev pub output_to : User → Tell → Output
output_to x t = Told x.ssn t

-- no octets are no data
abbrev pub given : List ℕ → Option (List ℕ)
given [] = None
given (b ∷ body) = Some (b ∷ body)

-- A text in units as long as they may be, the last with the rest, and M on all but the last.
abbrev pub unit_count : List ℕ → ℕ
unit_count body = (length body + (LONGEST_UNIT - 1)) / LONGEST_UNIT

abbrev pub unit_at : List ℕ → ℕ → DataUnit
unit_at body k = record { more = nat_lt (k + 1) (unit_count body); body = take LONGEST_UNIT (drop (LONGEST_UNIT * k) body) }

abbrev pub units_of : List ℕ → List DataUnit
units_of body = map (λ k. unit_at body k) (range_with_len 0 (unit_count body))

abbrev pub handed : DataUnit → Hand
handed u = hand.Unit u.more u.body

abbrev pub accepts : Request → User → User × Acted
accepts (request.Accept mine class credit body) x =
    let agreed = agreed_credit class credit x.credit in
    (record x { state = Ready; class = class; credit = agreed }, gives_then [] (hand.Accept class agreed None (given body) None ∷ []))
accepts _ x = (x, no_effect)

abbrev pub refuses : Request → User → User × Acted
refuses (request.Refuse mine cause body) x = (record x { state = Gone }, gives_then [] (hand.Refuse cause None (given body) None ∷ []))
refuses _ x = (x, no_effect)

abbrev pub sends : Request → User → User × Acted
sends (request.Send mine body) x =
    (record x { got = x.got ++ units_of body }, gives_then [] (map handed (units_of body)))
sends _ x = (x, no_effect)

abbrev pub expedites : Request → User → User × Acted
expedites (request.Expedite mine body) x = (x, gives_then [] (hand.Expedited body ∷ []))
expedites _ x = (x, no_effect)

abbrev pub disconnects : Request → User → User × Acted
disconnects (request.Disc mine cause body) x = (record x { state = Gone }, gives_then [] (hand.End cause (given body) None ∷ []))
disconnects _ x = (x, no_effect)

abbrev pub user_resets : User → User × Acted
user_resets x = (record x { state = Renewing; text = []; got = []; passed = 0 }, gives_then [] (hand.Reset RESET_END_USER ∷ []))

-- A request. It was not refused, and the cell is the table's for it.
unfoldable pub user_asks : Cell → Request → User → User × Acted
user_asks cell.UserAccepts r x = accepts r x
user_asks cell.UserRefuses r x = refuses r x
user_asks cell.UserSends r x = sends r x
user_asks cell.UserExpedites r x = expedites r x
user_asks cell.UserResets r x = user_resets x
user_asks cell.UserDisconnects r x = disconnects r x
user_asks _ r x = (x, no_effect)

abbrev pub tells_confirm : Hand → User → User × Acted
tells_confirm (hand.Accept class credit called body importance) x =
    (record x { state = Ready; class = class; credit = credit }, gives (output_to x (tell.Confirm x.mine class credit called body) ∷ []))
tells_confirm _ x = (x, no_effect)

abbrev pub tells_disconnect : Hand → User → User × Acted
tells_disconnect (hand.Refuse cause called body importance) x = (record x { state = Gone }, gives (output_to x (tell.Disc x.mine cause body) ∷ []))
tells_disconnect (hand.End cause body importance) x = (record x { state = Gone }, gives (output_to x (tell.Disc x.mine cause body) ∷ []))
tells_disconnect _ x = (x, no_effect)

-- what a user took has left
abbrev pub taken : ℕ → Bool → List Hand
taken units is_expedited = hand.Left units is_expedited ∷ []

-- A unit joins the text: a text that is too long ends the connection, one of which more follows waits, and a whole one is told.
abbrev pub overruns : User → User × Acted
overruns x = (
  record x { state = Gone },
  record { first = hand.End RELEASE_ACCESS_CONGESTION None None ∷ []; outs = output_to x (tell.Disc x.mine RELEASE_ACCESS_CONGESTION None) ∷ []; then = [] },
)

abbrev pub continues : List ℕ → User → User × Acted
continues body x = (record x { text = x.text ++ body }, gives_then [] (taken 1 false))

abbrev pub completes : List ℕ → User → User × Acted
completes body x = (record x { text = [] }, gives_then (output_to x (tell.Text x.mine (x.text ++ body)) ∷ []) (taken 1 false))

abbrev pub collects : Hand → User → User × Acted
collects (hand.Unit more body) x =
    if nat_lt LONGEST_TEXT (length (x.text ++ body)) then overruns x else if more then continues body x else completes body x
collects _ x = (x, no_effect)

abbrev pub tells_expedited : Hand → User → User × Acted
tells_expedited (hand.Expedited body) x = (x, gives_then (output_to x (tell.Expedited x.mine body) ∷ []) (taken 0 true))
tells_expedited _ x = (x, no_effect)

abbrev pub tells_reset : Hand → User → User × Acted
tells_reset (hand.Reset cause) x = (record x { text = []; got = []; passed = 0 }, gives (output_to x (tell.Renewed x.mine cause) ∷ []))
tells_reset _ x = (x, no_effect)

abbrev pub tells_reset_done : User → User × Acted
tells_reset_done x = (record x { state = Ready }, gives (output_to x (tell.ResetDone x.mine) ∷ []))

abbrev pub user_counts_left : Hand → User → User × Acted
user_counts_left (hand.Left units is_expedited) x = (record x { passed = x.passed + units }, no_effect)
user_counts_left _ x = (x, no_effect)

-- An effect of the section.
unfoldable pub user_takes : Cell → Hand → User → User × Acted
user_takes cell.TellConfirm h x = tells_confirm h x
user_takes cell.TellDisconnect h x = tells_disconnect h x
user_takes cell.TellUnit h x = collects h x
user_takes cell.TellExpedited h x = tells_expedited h x
user_takes cell.TellReset h x = tells_reset h x
user_takes cell.TellResetDone h x = tells_reset_done x
user_takes cell.Left h x = user_counts_left h x
user_takes _ h x = (x, no_effect)
