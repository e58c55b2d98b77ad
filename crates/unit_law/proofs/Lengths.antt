-- The octets of XUDT and XUDTS.
use Rattle.std.proofs.Common.{◌≡◌, ℕ, ◌+◌, ◌≤◌, List, length, arith, length-append}
use Rattle.std.specs.Prelude.{IsTrue, Option, Some, None}
use Rattle.std.proofs.lemmas.Bool.Decides.{nat_tests}
use Rattle.q713_shape.specs.Writing.{octets_of, are_in_range}
use Rattle.q713_codec.specs.Writing.{spelling_of, is_in_range}
use Rattle.q713_codec.specs.declared.message.Message.TheVariants.{Xudt, Xudts}
use Rattle.connectionless.specs.Cutting.{importance_size}
use Rattle.connectionless.specs.declared.cutting.TheConstants.{SEGMENT_ROOM}
use Rattle.long_interwork.specs.Shortening.{option_size}

pub length-segment : (first hop : ℕ) (called calling body segmentation : List ℕ) (importance : Option ℕ) → length segmentation ≡ 4
    → length (spelling_of (Xudt first hop called calling body (Some segmentation) importance)) ≡ 17 + length called + length calling + length body + importance_size importance
unfolding spelling_of octets_of
length-segment first hop called calling body segmentation None four = grind (arith, length-append {A = ℕ})
length-segment first hop called calling body segmentation (Some level) four = grind (arith, length-append {A = ℕ})

pub length-xudt : (first hop : ℕ) (called calling body : List ℕ) (importance : Option ℕ)
    → length (spelling_of (Xudt first hop called calling body None importance)) ≡ 10 + length called + length calling + length body + option_size importance
unfolding spelling_of octets_of
length-xudt first hop called calling body None = grind (arith, length-append {A = ℕ})
length-xudt first hop called calling body (Some level) = grind (arith, length-append {A = ℕ})

pub length-xudts : (first hop : ℕ) (called calling body : List ℕ) (importance : Option ℕ)
    → length (spelling_of (Xudts first hop called calling body None importance)) ≡ 10 + length called + length calling + length body + option_size importance
unfolding spelling_of octets_of
length-xudts first hop called calling body None = grind (arith, length-append {A = ℕ})
length-xudts first hop called calling body (Some level) = grind (arith, length-append {A = ℕ})

pub xudt-in_range : (first hop : ℕ) (called calling body : List ℕ) (importance : Option ℕ)
    → length called + length calling + length body + importance_size importance ≤ SEGMENT_ROOM → IsTrue (is_in_range (Xudt first hop called calling body None importance))
unfolding is_in_range are_in_range
xudt-in_range first hop called calling body None few = grind (arith, nat_tests, length-append {A = ℕ})
xudt-in_range first hop called calling body (Some level) few = grind (arith, nat_tests, length-append {A = ℕ})
