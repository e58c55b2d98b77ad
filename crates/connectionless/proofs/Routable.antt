-- What may be answered.
use Rattle.std.proofs.Common.{◌≡◌, refl, subst}
use Rattle.std.specs.Prelude.{false, Option, Some, IsOk, IsSome, IfSome}
use Rattle.sccp_address.specs.Parsing.{address_of}
use Rattle.q713_codec.specs.Names.{Message}
use Rattle.connectionless.specs.Unitdata.{Unitdata, unitdata_of}
use Rattle.connectionless.specs.Asking.{is_of_wrong_class}
use Rattle.connectionless.specs.Calls.{IsRoutable, IsOfClass}

abbrev IsReadable : Option Unitdata → Type 0
IsReadable unit = IsSome unit × IfSome unit (λ x. IsOk (address_of x.called))

pub routable : (message : Message) (x : Unitdata) → Some x ≡ unitdata_of message → IsOk (address_of x.called) → IsRoutable message
routable message x e reads =
    let both : IsReadable (unitdata_of message) = subst IsReadable e (refl, reads) in
    record { unit = both.0; address = both.1 }

pub of_class : (message : Message) (x : Unitdata) → Some x ≡ unitdata_of message → is_of_wrong_class x ≡ false → IsOfClass message
of_class message x e fits = subst (λ unit. IfSome unit (λ x. is_of_wrong_class x ≡ false)) e fits
