-- What an LUDT or an LUDTS becomes for a point that can't take it (Q.714, 4.1.1).
use Rattle.std.specs.Prelude.{◌≡◌, ◌≤◌, ℕ, true, false}
use Rattle.std.specs.List.{AllByRecursion}
use Rattle.relay_base.specs.declared.words.Output.{Output}
use Rattle.relay_base.specs.declared.words.Output.TheVariants.{Sent, Told, Lost as Dropped}
use Rattle.q713_codec.specs.Longest.{is_too_long}
use Rattle.connectionless.specs.Unitdata.{Unitdata, class_of}
use Rattle.connectionless.specs.Cutting.{segment_outputs}
use Rattle.long_interwork.specs.declared.forward.Forward.{Forward}
use Rattle.long_interwork.specs.Shortening.{shortened, cutting}
use Rattle.unit_law.specs.Together.{ComeTogether}

-- it has at most 268 octets, or is an LUDT or an LUDTS
abbrev pub IsShort : Output → Type 0
IsShort (Sent point sls octets) = is_too_long octets ≡ false
IsShort (Told ssn tell) = Unit {0}
IsShort (Dropped lost) = Unit {0}

abbrev pub ShortenedAreShort : Type 0
ShortenedAreShort =
    (own opc sls : ℕ) (to : Forward) (x : Unitdata) (reference : ℕ) →
    AllByRecursion IsShort (shortened own opc sls to x reference).outs

-- an LUDT that was cut: its outputs are segments, which come together at the point that they go to
pub record IsInSegments (own opc sls : ℕ) (to : Forward) (x : Unitdata) (reference ssn : ℕ) : Type 0 where
  pub unit : x.is_service ≡ false
  pub outputs : (shortened own opc sls to x reference).outs ≡ segment_outputs (cutting sls to x reference)
  pub together : ComeTogether (cutting sls to x reference) own ssn

abbrev pub ShortenedComeTogether : Type 0
ShortenedComeTogether =
    (own opc sls : ℕ) (to : Forward) (x : Unitdata) (reference ssn : ℕ) → class_of x ≤ 1 →
    (shortened own opc sls to x reference).is_cut ≡ true → IsInSegments own opc sls to x reference ssn
