-- The M3UA message that carries octets of SCCP (RFC 4666, 3.3.1), and what it brings back.
use Rattle.std.specs.Prelude.{ℕ, ◌+◌, ◌-◌, ◌<◌, List, [], ◌∷◌, ◌++◌, length, replicate, None}
use Rattle.byteorder.specs.Endian.{big_bytes}
use Rattle.relay_base.specs.declared.limits.TheConstants.{POINT_CODES, LINK_SELECTIONS}
use Rattle.relay_base.specs.declared.words.Event.TheVariants.{Message}
use Rattle.m3ua_port.specs.declared.limits.TheConstants.{VERSION, TRANSFER, DATA, HEADER, PARAMETER_HEADER, PROTOCOL_DATA, LABEL, SCCP, PHASE, LINK}
use Rattle.m3ua_port.specs.Frames.{Frames, padded}

-- the common header of a DATA message of this length (RFC 4666, 3.1)
abbrev pub header : ℕ → List ℕ
header size = (VERSION ∷ 0 ∷ TRANSFER ∷ DATA ∷ []) ++ big_bytes 4 size

-- the front of Protocol Data: the point codes of origin and destination, the service indicator of SCCP, the network indicator 0,
-- the message priority 0, and the signalling link selection
abbrev pub label : ℕ → ℕ → ℕ → List ℕ
label own point sls = big_bytes 4 own ++ big_bytes 4 point ++ (SCCP ∷ 0 ∷ 0 ∷ sls ∷ [])

-- the length of the parameter for so many octets
abbrev pub parameter_size : ℕ → ℕ
parameter_size count = PARAMETER_HEADER + LABEL + count

-- a message with one parameter; the length of the message counts what the parameter is filled up with
abbrev pub wrapped : ℕ → ℕ → ℕ → List ℕ → List ℕ
wrapped own point sls octets =
    let size = parameter_size (length octets) in
    header (HEADER + padded size) ++ big_bytes 2 PROTOCOL_DATA ++ big_bytes 2 size ++ label own point sls ++ octets ++ replicate (padded size - size) 0

-- a stream of one message, which brings these octets
abbrev pub one_transfer : ℕ → ℕ → List ℕ → Frames
one_transfer opc sls octets = record {
  events = (record { phase = PHASE; link = LINK; line = 1 }, Message opc sls octets) ∷ [];
  fault = None;
}

-- the numbers of a label are in range
pub record IsInRange (own point sls : ℕ) : Type 0 where
  pub opc : own < POINT_CODES
  pub dpc : point < POINT_CODES
  pub selection : sls < LINK_SELECTIONS
