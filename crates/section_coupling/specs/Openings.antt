-- Which events open a connection, and what the code keeps of what they want.
use Rattle.std.specs.Prelude.{◌≡◌, ℕ, Bool, true, false, ◌==◌, ◌||◌, ◌≤◌, IsTrue, List, length, Option, Some, None, is_some, IfSome}
use Rattle.std.specs.Option.{option_map}
use Rattle.relay_base.specs.declared.limits.TheConstants.{LONGEST_GIVEN_ADDRESS}
use Rattle.plant_core.specs.declared.answer.Answer.{Answer}
use Rattle.sccp_address.specs.Subsystems.{subsystem_address}
use Rattle.plant_core.specs.declared.terms.Terms.{Terms}
use Rattle.section_model.specs.Lengths.{IsAddress, IsData}
use Rattle.q713_codec.specs.Names.{Message}
use Rattle.section_model.specs.Opening.{Wanted, Wish, by_cr, by_user, no_wish, Opened, question_of, offered, onward}
use Rattle.section_coupling.specs.declared.wish.Calling.{Calling}
use Rattle.section_coupling.specs.declared.wish.Calling.TheVariants.{Absent, Given, Subsystem}
use Rattle.section_coupling.specs.declared.wish.WantedView.{WantedView}
use Rattle.section_coupling.specs.declared.wish.Incoming.{Incoming}
use Rattle.section_coupling.specs.declared.wish.Outgoing.{Outgoing}
use Rattle.section_coupling.specs.declared.wish.WishView.{WishView}
use Rattle.section_coupling.specs.declared.wish.WishView.TheVariants.{ByCr, ByUser, NoWish}
use Rattle.section_coupling.specs.declared.opening.Opening.{Opening}
use Rattle.section_coupling.specs.declared.opening.Route.{Route}
use Rattle.section_coupling.specs.Views.{connection_at}
use Rattle.section_coupling.specs.Sound.{SoundPair}

-- an event that wants a connection
abbrev pub is_wish : Wish → Bool
is_wish (by_cr w) = true
is_wish (by_user ssn tag w) = true
is_wish no_wish = false

-- routing is answered where it was asked, and only there
abbrev pub IsAnswered : Wish → Option Answer → Type 0
IsAnswered wish answer = is_some answer ≡ is_some (question_of wish)

-- the calling address: none, that of a message, or that of a subsystem of this node
abbrev pub seen_calling : Calling → Option (List ℕ)
seen_calling Absent = None
seen_calling (Given octets) = Some octets.now
seen_calling (Subsystem ssn) = Some (subsystem_address ssn)

-- what is wanted, from a point and a reference there
abbrev pub seen_wanted : Terms → ℕ → ℕ → WantedView → Wanted
seen_wanted terms point slr w = record {
  point = point;
  sls = w.sls;
  slr = slr;
  class = w.class;
  credit = offered terms w.class w.credit;
  called = w.called.now;
  calling = seen_calling w.calling;
  body = option_map (λ b. b.now) w.body;
  hop = w.hop;
  importance = w.importance;
}

abbrev pub seen_incoming : Terms → Incoming → Wanted
seen_incoming terms i = seen_wanted terms i.point i.slr i.wanted

abbrev pub seen_outgoing : Terms → Outgoing → Wanted
seen_outgoing terms o = seen_wanted terms terms.own 0 o.wanted

abbrev pub seen_wish : Terms → WishView → Wish
seen_wish terms (ByCr i) = by_cr (seen_incoming terms i)
seen_wish terms (ByUser o) = by_user o.ssn o.tag (seen_outgoing terms o)
seen_wish terms NoWish = no_wish

-- what a user wants is in its ranges
pub record IsGivenWithin (w : WantedView) : Type 0 where
  pub class : IsTrue (w.class == 2 || w.class == 3)
  pub called : length w.called.now ≤ LONGEST_GIVEN_ADDRESS
  pub calling : IsAddress (seen_calling w.calling)
  pub body : IsData (option_map (λ b. b.now) w.body)

abbrev pub UserWithin : WishView → Type 0
UserWithin (ByCr i) = Unit {0}
UserWithin (ByUser o) = IsGivenWithin o.wanted
UserWithin NoWish = Unit {0}

-- the opening that the code stands for, after so many ticks of its lane
abbrev pub opened_at : ℕ → Opening → Opened
opened_at now o = record { connection = option_map (connection_at now) o.pair; outs = o.outs }

-- the connection that is opened, if any
abbrev pub OpensSound : Opening → Type 0
OpensSound o = IfSome o.pair SoundPair

-- CR as it goes on by a route, from a new reference
abbrev pub cr_onward : Wanted → Route → ℕ → Message
cr_onward w to mine = onward w to.rewrite.now to.hop mine
