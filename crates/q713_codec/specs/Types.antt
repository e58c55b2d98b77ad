-- What the types of a message's fields say of it.
use Rattle.std.specs.Prelude.{ℕ, ◌≡◌, ◌<◌, List, [], ◌∷◌, length}
use Rattle.relay_base.specs.declared.limits.TheConstants.{REFERENCES}
use Rattle.q713_codec.specs.Names.{Message, Cr, Cc, Cref, Rlsd, Rlc, Dt1, Dt2, Ak, Udt, Udts, Ed, Ea, Rsr, Rsc, Error, It, Xudt, Xudts, Ludt, Ludts}
use Rattle.q713_codec.specs.Messages.{format_in, values_of_message}

-- the references of a message
abbrev pub references_in : Message → List ℕ
references_in (Cr slr _ _ _ _ _ _ _) = slr ∷ []
references_in (Cc dlr slr _ _ _ _ _) = dlr ∷ slr ∷ []
references_in (Cref dlr _ _ _ _) = dlr ∷ []
references_in (Rlsd dlr slr _ _ _) = dlr ∷ slr ∷ []
references_in (Rlc dlr slr) = dlr ∷ slr ∷ []
references_in (Dt1 dlr _ _) = dlr ∷ []
references_in (Dt2 dlr _ _) = dlr ∷ []
references_in (Ak dlr _ _) = dlr ∷ []
references_in (Udt _ _ _ _) = []
references_in (Udts _ _ _ _) = []
references_in (Ed dlr _) = dlr ∷ []
references_in (Ea dlr) = dlr ∷ []
references_in (Rsr dlr slr _) = dlr ∷ slr ∷ []
references_in (Rsc dlr slr) = dlr ∷ slr ∷ []
references_in (Error dlr _) = dlr ∷ []
references_in (It dlr slr _ _ _) = dlr ∷ slr ∷ []
references_in (Xudt _ _ _ _ _ _ _) = []
references_in (Xudts _ _ _ _ _ _ _) = []
references_in (Ludt _ _ _ _ _ _ _) = []
references_in (Ludts _ _ _ _ _ _ _) = []

-- references have 24 bits
abbrev pub AreReferences : List ℕ → Type 0
AreReferences [] = Unit {0}
AreReferences (n ∷ ns) = (n < REFERENCES) × AreReferences ns

-- a message has as many fixed octets as its format
abbrev pub HasTypes : Message → Type 0
HasTypes message = AreReferences (references_in message) × (length (values_of_message message).fixed ≡ length (format_in message).fixed)
