-- What private contracts of acts say.
use Rattle.std.specs.Prelude.{◌≡◌, ℕ, List}
use Rattle.section_model.specs.declared.hand.Acted.{Acted}
use Rattle.section_model.specs.declared.hand.KeptRelease.{KeptRelease}
use Rattle.section_flow.specs.declared.unit.Unit.{Unit as DataUnit}
use Rattle.section_model.specs.declared.wire.WireHead.{WireHead}
use Rattle.section_model.specs.Ends.{Line as SectionLine}
use Rattle.section_model.specs.Views.{section_of}

-- an act of a section that leaves what it keeps and counts as it is
abbrev pub ActsOnHead : (SectionLine → SectionLine × Acted) → WireHead → WireHead → Acted → Type 0
ActsOnHead act wire wire' done =
    (kept : KeptRelease) (got : List DataUnit) (passed : ℕ) →
    act (record { head = section_of wire; kept = kept; got = got; passed = passed })
    ≡ (record { head = section_of wire'; kept = kept; got = got; passed = passed }, done)
