-- What a call that appends to a text does, and which tells are of connections.
use Rattle.std.specs.Prelude.{◌≡◌, ℕ, Bool, true, false, List, ◌++◌, OnOk}
use Rattle.std.specs.declared.result.Result.{Result}
use Rattle.relay_base.specs.declared.words.Tell.{Tell}
use Rattle.relay_base.specs.declared.words.Tell.TheVariants as tell

-- the call put this text at the end, unless memory ran out
abbrev pub Puts : {U E : Type 0} → Result U E → List ℕ → List ℕ → List ℕ → Type 0
Puts result old new text = OnOk result (new ≡ old ++ text)

-- whether a user is told of a connection
abbrev pub is_connected : Tell → Bool
is_connected (tell.Conn _ _ _ _ _ _) = true
is_connected (tell.Named _ _) = true
is_connected (tell.NotMade _ _) = true
is_connected (tell.Confirm _ _ _ _ _) = true
is_connected (tell.Text _ _) = true
is_connected (tell.Expedited _ _) = true
is_connected (tell.Renewed _ _) = true
is_connected (tell.ResetDone _) = true
is_connected (tell.Disc _ _ _) = true
is_connected _ = false
