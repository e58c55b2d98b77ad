-- The M3UA messages (RFC 4666, 3.3.1) that carry what a book sends.
use Rattle.std.specs.Prelude.{ℕ, nat_le, List, [], length, if◌then◌else◌}
use Rattle.std.specs.List.{flat_map}
use Rattle.relay_base.specs.declared.words.Output.{Output}
use Rattle.relay_base.specs.declared.words.Output.TheVariants.{Sent}
use Rattle.journal_text.specs.declared.book.Book.{Book}
use Rattle.capture_generator.specs.Counts.{outputs_in}
use Rattle.m3ua_port.specs.declared.limits.TheConstants.{LONGEST_CARRIED}
use Rattle.m3ua_port.specs.Wrapping.{wrapped}

-- the message of what is sent, where it has no more octets than one message carries; nothing else has one
abbrev pub frame_of : ℕ → Output → List ℕ
frame_of own (Sent point sls bytes) = if nat_le (length bytes) LONGEST_CARRIED then wrapped own point sls bytes else []
frame_of own _ = []

abbrev pub frames_of_outs : ℕ → List Output → List ℕ
frames_of_outs own outs = flat_map (frame_of own) outs

-- those of a book, one after another
abbrev pub sent_frames : ℕ → Book → List ℕ
sent_frames own book = flat_map (frames_of_outs own) (outputs_in book)
