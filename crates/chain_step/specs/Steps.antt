-- The steps that n nodes in a row can take.
use Rattle.std.specs.Prelude.{ℕ, ◌==◌, ◌&&◌, ◌||◌, nat_lt, nat_le, nat_eq, Bool, List, [], ◌∷◌, if◌then◌else◌}
use lib.Pointwise.{pointwise}
use Rattle.relay_base.specs.declared.words.Request.{Request}
use Rattle.relay_base.specs.declared.words.Request.TheVariants as request
use Rattle.section_model.specs.Opening.{may_be_wanted}
use Rattle.section_model.specs.Step.{is_in_range}
use Rattle.chain_step.specs.declared.step.Step.{Step}
use Rattle.chain_step.specs.declared.step.Step.TheVariants.{Ask, Pass, Tick}

-- the called address of each connection: subsystem 8, and the title 491712 with indicator 4
abbrev pub title_address : List ℕ
title_address = 18 ∷ 8 ∷ 0 ∷ 18 ∷ 4 ∷ 148 ∷ 113 ∷ 33 ∷ []

-- a request of a connection, in its ranges
abbrev pub is_askable : Request → Bool
is_askable (request.Conn tag class credit called body) = may_be_wanted class credit called body && pointwise nat_eq called title_address
is_askable r = is_in_range r

abbrev pub is_node : ℕ → ℕ → Bool
is_node n i = nat_le 1 i && nat_le i n

-- whether a node has a neighbour, the next one or the one before
abbrev pub has_neighbour : ℕ → Bool → ℕ → Bool
has_neighbour n forward i = if forward then nat_lt i n else nat_lt 1 i

abbrev pub is_step : ℕ → Step → Bool
is_step n (Ask i r) = (i == 1 || i == n) && is_askable r
is_step n (Pass i forward) = is_node n i && has_neighbour n forward i
is_step n (Tick i) = is_node n i
