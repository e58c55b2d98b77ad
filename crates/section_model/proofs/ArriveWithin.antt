-- What arrives has the lengths of Q.713.
use Rattle.std.proofs.Common.{◌≡◌, ℕ, List, Ok, Err, refl, subst}
use Rattle.std.specs.Prelude.{Option, Some, None}
use Rattle.std.specs.declared.result.Result.{Result}
use Rattle.relay_base.specs.declared.words.ReadFault.{ReadFault}
use Rattle.q713_codec.specs.Names.{Message}
use Rattle.q713_codec.specs.declared.message.Message.TheVariants.{Cr, Cc, Cref, Rlsd, Rlc, Dt1, Dt2, Ak, Udt, Udts, Ed, Ea, Rsr, Rsc, Err as Error, It, Xudt, Xudts, Ludt, Ludts}
use Rattle.q713_codec.specs.Reading.{reading_of}
use Rattle.section_model.specs.Parameters.{Arrival, arrival_of, arrival_by, arrival_in}
use Rattle.section_model.specs.Lengths.{HasLengths, ArrivalWithin, ArrivesWithin}
use Rattle.section_model.proofs.ReadWithin.{read_within}

abbrev Within : Option Arrival → Type 0
Within None = Unit {0}
Within (Some a) = ArrivalWithin a

of_message : (m : Message) → HasLengths m → Within (arrival_of m)
unfolding arrival_of
of_message (Cr _ _ _ _ _ _ _ _) h = tt
of_message (Cc dlr slr class credit called body importance) h = (h.0, h.1, tt)
of_message (Cref dlr cause called body importance) h = (h.0, h.1, tt)
of_message (Rlsd dlr slr cause body importance) h = (tt, h, tt)
of_message (Rlc dlr slr) h = (tt, tt, tt)
of_message (Dt1 dlr segmenting body) h = (tt, tt, h)
of_message (Dt2 dlr sequencing body) h = (tt, tt, h)
of_message (Ak dlr receive credit) h = (tt, tt, tt)
of_message (Udt _ _ _ _) h = tt
of_message (Udts _ _ _ _) h = tt
of_message (Ed dlr body) h = (tt, tt, h)
of_message (Ea dlr) h = (tt, tt, tt)
of_message (Rsr dlr slr cause) h = (tt, tt, tt)
of_message (Rsc dlr slr) h = (tt, tt, tt)
of_message (Error dlr cause) h = (tt, tt, tt)
of_message (It dlr slr class sequencing credit) h = (tt, tt, tt)
of_message (Xudt _ _ _ _ _ _ _) h = tt
of_message (Xudts _ _ _ _ _ _ _) h = tt
of_message (Ludt _ _ _ _ _ _ _) h = tt
of_message (Ludts _ _ _ _ _ _ _) h = tt

of_reading : (b : List ℕ) (r : Result Message ReadFault) → reading_of b ≡ r → Within (arrival_by r)
of_reading b (Ok m) e = of_message m (read_within b m e)
of_reading b (Err fault) e = tt

pub arrives_within : ArrivesWithin
unfolding arrival_in
arrives_within b a e = subst Within e (of_reading b (reading_of b) refl)
