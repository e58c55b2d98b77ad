-- The replicates of a head (Q.714, 5.3.5).
use Rattle.std.specs.Prelude.{ℕ, ◌+◌, ◌-◌, ◌==◌, ◌&&◌, not, codes, Bool, List, [], ◌∷◌, ◌++◌, length, if◌then◌else◌, Option, Ok, Err}
use Rattle.std.specs.List.{list_any}
use Rattle.std.specs.declared.result.Result.{Result}
use Rattle.relay_base.specs.declared.limits.TheConstants.{SUBSYSTEM_NUMBERS}
use Rattle.relay_base.specs.Giving.{◌>>=◌}
use Rattle.plant_core.specs.declared.terms.Replicate.{Replicate}
use Rattle.toml.specs.Data.{Data, Members}
use Rattle.node_head.specs.declared.fault.HeadFault.{HeadFault}
use Rattle.node_head.specs.declared.fault.HeadKind.TheVariants as kind
use Rattle.node_head.specs.declared.section.Place.{Place}
use Rattle.node_head.specs.declared.section.Place.TheVariants.{Nth}
use Rattle.node_head.specs.declared.section.TableArray.TheVariants.{Replicates}
use Rattle.node_head.specs.Keys.{path, required, number_at, point_at}
use Rattle.node_head.specs.Tables.{tables_value}
use Rattle.node_head.specs.Refusals.{fault}

abbrev pub has_replicate : List Replicate → ℕ → Bool
has_replicate found ssn = list_any (λ r. r.ssn == ssn) found

-- a user that has no replicate yet
abbrev pub is_new_user : List ℕ → List Replicate → ℕ → Bool
is_new_user users found ssn = list_any (λ user. user == ssn) users && not (has_replicate found ssn)

unfoldable pub user_at : List ℕ → List Replicate → Place → Members → Result ℕ HeadFault
user_at users found place ms = do
  ssn ← number_at place ms (codes "ssn") (required 0 (SUBSYSTEM_NUMBERS - 1))
  if is_new_user users found ssn then Ok ssn else Err (fault kind.Range (path place (codes "ssn")))

-- another point
unfoldable pub other_point_at : ℕ → Place → Members → Result ℕ HeadFault
other_point_at own place ms = do
  point ← point_at place ms
  if point == own then Err (fault kind.Range (path place (codes "point"))) else Ok point

-- a replicate, behind those found
unfoldable pub replicate_of : ℕ → List ℕ → List Replicate → Place → Members → Result Replicate HeadFault
replicate_of own users found place ms = do
  ssn ← user_at users found place ms
  point ← other_point_at own place ms
  Ok (record { ssn = ssn; point = point })

-- the replicates found, and those of more tables
abbrev pub replicates_after : ℕ → List ℕ → List Replicate → List Members → Result (List Replicate) HeadFault
replicates_after own users found [] = Ok found
replicates_after own users found (ms ∷ more) = do
  replicate ← replicate_of own users found (Nth Replicates (length found + 1)) ms
  replicates_after own users (found ++ replicate ∷ []) more

-- none where the key is absent
unfoldable pub replicates_value : ℕ → List ℕ → Option Data → Result (List Replicate) HeadFault
replicates_value own users d = tables_value Replicates d >>= replicates_after own users []
