-- A generated capture has events of one link in each phase, and no message of management.
use Rattle.std.proofs.Common.{◌≡◌, ◌||◌, ℕ, zero, suc, ◌+◌, ◌*◌, ◌%◌, false, [], ◌∷◌, ◌++◌, get_or, Result, Ok, Err, refl, sym, ap, ◌∙◌}
use Rattle.std.specs.Prelude.{◌≢◌}
use Rattle.std.specs.List.{AllByRecursion}
use Rattle.capture_generator.specs.declared.events.TheConstants.{BLOCK}
use Rattle.relay_base.specs.declared.limits.TheConstants.{LINK_SELECTIONS, OCTET_VALUES}
use Rattle.relay_base.specs.Giving.{◌>>=◌}
use Rattle.relay_base.specs.declared.words.ReadFault.{ReadFault}
use Rattle.plant_core.specs.declared.entry.ControlEvent.{ControlEvent}
use Rattle.plant_core.specs.declared.entry.ControlEvent.TheVariants.{Plain}
use Rattle.q713_shape.specs.Format.{Values}
use Rattle.q713_shape.specs.Reading.{value_at, variable_at, variables_at, options_in, options_at, values_of}
use Rattle.q713_codec.specs.Names.{Message}
use Rattle.q713_codec.specs.Longest.{is_too_long}
use Rattle.q713_codec.specs.Formats.{cr_format, dt1_format}
use Rattle.q713_codec.specs.Messages.{cr_of, dt1_of}
use Rattle.q713_codec.specs.Reading.{message_as, reading_of}
use Rattle.sccp_address.specs.Digits.{digits_in}
use Rattle.sccp_address.specs.Titles.{title_at}
use Rattle.sccp_address.specs.Parsing.{point_at, ssn_at, address_of}
use Rattle.capture_form.specs.declared.lane_place.LanePlace.{LanePlace}
use Rattle.capture_form.specs.Place.{in_data, place_of_message, place_of_reading}
use Rattle.capture_form.specs.Events.{Stamped}
use Rattle.right_book.specs.Placed.{in_control}
use Rattle.capture_generator.specs.Generator.{generator_head, unit_octets, request_octets, data_octets, message_at, event_of_kind, reference_at, events_after, block_phase, tick_phase, number_after}
use Rattle.capture_generator.proofs.CaptureLemmas.{all-append, of-kind, each-event, each-phase}
use Rattle.book_law.specs.Sequential.{is_of_management, IsSequentialPhase}
use Rattle.book_law.proofs.Managed.{has_management}
use Rattle.book_law.specs.Generated.{GeneratedIsSequential}
use Rattle.book_law.proofs.Booleans.{absurd_bool, either}

abbrev NotManaged : ControlEvent → Type 0
NotManaged e = is_of_management generator_head e ≡ false

-- ---- no event is a message of management

abbrev Elsewhere : LanePlace → Type 0
Elsewhere place = in_control place ≡ false

read_place : (opc sls : ℕ) (values : Result Values ReadFault) (message : Values → Message) → ((v : Values) → Elsewhere (place_of_message generator_head opc sls (message v)))
    → Elsewhere (place_of_reading generator_head opc sls (values >>= (λ v. Ok (message v))))
read_place opc sls (Ok v) message h = h v
read_place opc sls (Err fault) message h = refl

unit_place : (i : ℕ) → NotManaged (Plain (message_at i unit_octets))
unfolding place_of_message value_at variable_at variables_at options_in options_at values_of message_as reading_of digits_in title_at point_at ssn_at address_of
unit_place i = refl

request_place : (i n : ℕ) → NotManaged (Plain (message_at i (request_octets n)))
unfolding place_of_message message_as reading_of
request_place i n =
    either Elsewhere (is_too_long (request_octets n)) (in_data generator_head (i % LINK_SELECTIONS)) _ refl
    (read_place 2 (i % LINK_SELECTIONS) (values_of cr_format (request_octets n)) cr_of (λ v. refl))

data_place : (i n octet : ℕ) → NotManaged (Plain (message_at i (data_octets n octet)))
unfolding place_of_message message_as reading_of
data_place i n octet =
    either Elsewhere (is_too_long (data_octets n octet)) (in_data generator_head (i % LINK_SELECTIONS)) _ refl
    (read_place 2 (i % LINK_SELECTIONS) (values_of dt1_format (data_octets n octet)) dt1_of (λ v. refl))

kind_place : (kind i : ℕ) → NotManaged (Plain (event_of_kind kind i))
kind_place kind i = of-kind (λ e. NotManaged (Plain e)) i (unit_place i) (request_place i (i + 1)) refl (data_place i (reference_at i) (i % OCTET_VALUES)) kind

-- ---- the phases

none_managed : (events : Stamped) → AllByRecursion (λ e. NotManaged e.1) events → has_management generator_head events ≡ false
none_managed [] h = refl
none_managed (e ∷ es) h = ap (λ t. t || has_management generator_head es) h.0 ∙ none_managed es h.1

block_sequential : (x b n : ℕ) → IsSequentialPhase generator_head (block_phase x b n)
block_sequential x b n =
    let events : Stamped = events_after (number_after x (BLOCK * b)) (BLOCK * b) n in
    record {
      link = 1;
      alone = alone_at events;
      managed = λ yes. absurd (absurd_bool (sym yes ∙ none_managed (events ++ []) (all-append (λ e. NotManaged e.1) events [] (each-event NotManaged kind_place (number_after x (BLOCK * b)) (BLOCK * b) n) tt)));
    }
  where
    alone_at : (events : Stamped) (other : ℕ) → other ≢ 1 → get_or ([] ∷ events ∷ []) other [] ≡ []
    alone_at events zero d = refl
    alone_at events (suc zero) d = absurd (d refl)
    alone_at events (suc (suc k)) d = refl

tick_sequential : (b : ℕ) → IsSequentialPhase generator_head (tick_phase b)
tick_sequential b = record { link = 0; alone = alone_at b; managed = λ yes. absurd (absurd_bool (sym yes)) }
  where
    alone_at : (b other : ℕ) → other ≢ 0 → get_or (tick_phase b) other [] ≡ []
    alone_at b zero d = absurd (d refl)
    alone_at b (suc zero) d = refl
    alone_at b (suc (suc k)) d = refl

pub generated_sequential : GeneratedIsSequential
generated_sequential number lines = each-phase (IsSequentialPhase generator_head) block_sequential tick_sequential (number % 2147483648) lines
