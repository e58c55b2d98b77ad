-- The law of the ranges of streams: the capture of a head and a stream of M3UA messages is in them.
use Rattle.std.specs.Prelude.{◌≡◌, ℕ, List, Ok}
use Rattle.capture_form.specs.declared.capture.Capture.{Capture}
use Rattle.m3ua_capture.specs.Streams.{stream_capture}
use Rattle.printable_law.specs.OctetLaw.{AreOctets}
use Rattle.printable_law.specs.CaptureRanges.{InputInRange}

abbrev pub StreamsAreInRange : Type 0
StreamsAreInRange = (bytes : List ℕ) (capture : Capture) → AreOctets bytes → stream_capture bytes ≡ Ok capture → InputInRange capture.head capture.phases
