-- What units are when they are put together (Q.714, 3.5.3).
use Rattle.std.specs.Prelude.{ℕ, List, [], ◌∷◌, ◌++◌, if◌then◌else◌, fold}
use Rattle.section_model.specs.Ends.{DataUnit}

-- the whole texts, in order, and what there is of the next one
pub record Joined : Type 0 where
  pub texts : List (List ℕ)
  pub rest : List ℕ

-- one more unit: its data joins the text, and where no more of this follows, the text is whole
abbrev pub joins : Joined → DataUnit → Joined
joins j u = if u.more then record j { rest = j.rest ++ u.body } else record { texts = j.texts ++ (j.rest ++ u.body) ∷ []; rest = [] }

-- units, from what there is
abbrev pub joined_from : Joined → List DataUnit → Joined
joined_from j units = fold joins j units

-- and from nothing
abbrev pub joined : List DataUnit → Joined
joined units = joined_from (record { texts = []; rest = [] }) units
