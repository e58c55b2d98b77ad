-- Each generated line means its event.
use Rattle.std.proofs.Common.{◌≡◌, ℕ, ◌+◌, ◌%◌, ◌≤◌, ◌<◌, ◌==◌, codes, Bool, true, false, cond, List, [], ◌∷◌, ◌++◌, length, Ok, refl, arith, length-append}
use Rattle.std.specs.List.{AllByRecursion}
use Rattle.std.specs.Fmt.{decimal}
use Rattle.relay_base.specs.declared.limits.TheConstants.{LINK_SELECTIONS, OCTET_VALUES, REFERENCES}
use Rattle.relay_base.specs.Decimal.{number_of}
use Rattle.relay_base.specs.declared.words.Event.{Event}
use Rattle.relay_base.specs.declared.words.Event.TheVariants.{Asked}
use Rattle.relay_base.specs.declared.words.Request.TheVariants.{Accept}
use Rattle.plant_core.specs.declared.entry.ControlEvent.TheVariants.{Plain}
use Rattle.journal_text.specs.Print.{spaced, octets_text}
use Rattle.capture_form.specs.Text.{hex_of}
use Rattle.capture_form.specs.Line.{meaning_of}
use Rattle.capture_form.specs.Groups.{is_commit}
use Rattle.capture_form.specs.declared.meaning.Meaning.TheVariants.{Event as Brings}
use Rattle.capture_form.specs.Capture.{is_skipped, begins}
use Rattle.q713_codec.specs.Messages.{octets3}
use Rattle.capture_generator.specs.Generator.{generator_head, reference_at, unit_octets, request_octets, data_octets, message_at, event_of_kind}
use Rattle.capture_generator.specs.Text.{message_words, acceptance_words, words_of_kind}
use Rattle.book_law.proofs.Splitting.{IsWord, word, stated}
use Rattle.book_law.proofs.Words.{AreOctets, are_octets, IsShort, below-decimal, decimal-word, decimal-short, octets-word, octets-hex, octets-length}

-- ---- one line

-- what is said of the words of a line: they are words of an event line, they mean this event, and they are short
pub record Writes (ws : List (List ℕ)) (event : Event) : Type 0 where
  pub each : AllByRecursion IsWord ws
  pub means : meaning_of generator_head ws ≡ Ok (Brings 1 (Plain event))
  pub short : length (spaced ws) ≤ 60
  pub stated : is_skipped (spaced ws) ≡ false
  pub no_barrier : begins (codes "w") ws ≡ false
  pub no_tick : begins (codes "t") ws ≡ false
  pub no_commit : is_commit ws ≡ false

message-writes : (i b : ℕ) (octets : List ℕ) → AreOctets (b ∷ octets) → length (b ∷ octets) ≤ 13 → Writes (message_words i (b ∷ octets)) (message_at i (b ∷ octets))
unfolding number_of
message-writes i b octets h few =
    let small : IsShort (i % LINK_SELECTIONS) = omega arith in
    record {
      each = (word (codes "m") refl, (word (codes "1") refl, (word (codes "2") refl, (decimal-word (i % LINK_SELECTIONS) small, (octets-word b octets h, tt)))));
      means = rw (below-decimal LINK_SELECTIONS (i % LINK_SELECTIONS) small (omega arith), octets-hex b octets h) refl;
      short = omega (
        arith,
        few,
        length-append (decimal (i % LINK_SELECTIONS)) (32 ∷ octets_text (b ∷ octets)),
        decimal-short 2 (i % LINK_SELECTIONS) (omega arith) (omega arith) small,
        octets-length b octets,
      );
      stated = stated 109 (32 ∷ spaced (codes "1" ∷ codes "2" ∷ decimal (i % LINK_SELECTIONS) ∷ octets_text (b ∷ octets) ∷ [])) refl;
      no_barrier = refl;
      no_tick = refl;
      no_commit = refl;
    }

acceptance-writes : (i : ℕ) → Writes (acceptance_words i) (Asked 8 (Accept (reference_at i) 2 0 []))
unfolding number_of hex_of
acceptance-writes i =
    let small : IsShort (reference_at i) = omega arith in
    record {
      each = (
        word (codes "u") refl,
        (
          word (codes "1") refl,
          (
            word (codes "8") refl,
            (
              word (codes "accept") refl,
              (
                decimal-word (reference_at i) small,
                (
                  word (codes "2") refl,
                  (
                    word (codes "0") refl,
                    (word (codes "-") refl, tt),
                  ),
                ),
              ),
            ),
          ),
        ),
      );
      means = rw (below-decimal REFERENCES (reference_at i) small (omega arith)) refl;
      short = omega (
        arith,
        length-append (decimal (reference_at i)) (32 ∷ spaced (codes "2" ∷ codes "0" ∷ codes "-" ∷ [])),
        decimal-short 4 (reference_at i) (omega arith) (omega arith) small,
      );
      stated = stated 117 (32 ∷ spaced (codes "1" ∷ codes "8" ∷ codes "accept" ∷ decimal (reference_at i) ∷ codes "2" ∷ codes "0" ∷ codes "-" ∷ [])) refl;
      no_barrier = refl;
      no_tick = refl;
      no_commit = refl;
    }

-- ---- the octets of the messages

three : (n : ℕ) (rest : List ℕ) → AreOctets rest → AreOctets (octets3 n ++ rest)
three n rest more = (omega arith, (omega arith, (omega arith, more)))

unit-octets : AreOctets unit_octets
unit-octets = are_octets unit_octets refl

request-octets : (n : ℕ) → AreOctets (request_octets n)
request-octets n = (omega arith, three n (2 ∷ 2 ∷ 0 ∷ 2 ∷ 66 ∷ 8 ∷ []) (are_octets (2 ∷ 2 ∷ 0 ∷ 2 ∷ 66 ∷ 8 ∷ []) refl))

data-octets : (n octet : ℕ) → octet < OCTET_VALUES → AreOctets (data_octets n octet)
data-octets n octet o = (omega arith, three n (0 ∷ 1 ∷ 1 ∷ octet ∷ []) (omega arith, (omega arith, (omega arith, (o, tt)))))

-- ---- by kind

either : (a b : List (List ℕ)) (e f : Event) (t : Bool) → Writes a e → Writes b f → Writes (cond t a b) (cond t e f)
either a b e f true g h = g
either a b e f false g h = h

pub kind-writes : (kind i : ℕ) → Writes (words_of_kind kind i) (event_of_kind kind i)
kind-writes kind i =
    either (message_words i unit_octets) _ (message_at i unit_octets) _ (kind == 0) (message-writes i 9 _ unit-octets (omega arith))
    (either (message_words i (request_octets (i + 1))) _ (message_at i (request_octets (i + 1))) _ (kind == 1) (message-writes i 1 _ (request-octets (i + 1)) (omega arith))
    (either (acceptance_words i) (message_words i (data_octets (reference_at i) (i % OCTET_VALUES))) (Asked 8 (Accept (reference_at i) 2 0 [])) (message_at i (data_octets (reference_at i) (i % OCTET_VALUES))) (kind == 2)
    (acceptance-writes i) (message-writes i 6 _ (data-octets (reference_at i) (i % OCTET_VALUES) (omega arith)) (omega arith))))
