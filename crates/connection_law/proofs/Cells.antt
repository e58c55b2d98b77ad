-- What the table of a section's states and events says of its cells.
use Rattle.std.proofs.Common.{◌≡◌, refl}
use Rattle.section_model.specs.declared.cell.Cell.{Cell}
use Rattle.section_model.specs.declared.cell.Cell.TheVariants as cell
use Rattle.section_model.specs.declared.cell.Occasion.{Occasion}
use Rattle.section_model.specs.declared.cell.Occasion.TheVariants as on
use Rattle.section_model.specs.declared.cell.SectionState.{SectionState}
use Rattle.section_model.specs.declared.cell.SectionState.TheVariants.{Asked, Asking, Waning, Up, Resetting}
use Rattle.section_model.specs.Table.{section_row, section_cell}

-- DT1 or DT2 comes in
abbrev pub IsDataMessage : Occasion → Type 0
IsDataMessage on.Dt1 = Unit {0}
IsDataMessage on.Dt2 = Unit {0}
IsDataMessage _ = ⊥

-- the other end hands a reset
abbrev pub IsResetComes : Occasion → Type 0
IsResetComes on.ResetComes = Unit {0}
IsResetComes _ = ⊥

-- The cells that set a section up, take data, end a reset, or clear what came in stand in these rows and columns alone.
abbrev pub IsCellOf : Cell → Occasion → SectionState → Type 0
IsCellOf cell.TakeData o s = IsDataMessage o × (s ≡ Up)
IsCellOf cell.TakeNumberedData o s = IsDataMessage o × (s ≡ Up)
IsCellOf cell.TakeExpedited o s = o ≡ on.Ed
IsCellOf cell.TakeExpeditedAcknowledgement o s = o ≡ on.Ea
IsCellOf cell.Confirm o s = s ≡ Asking
IsCellOf cell.ConfirmLate o s = s ≡ Waning
IsCellOf cell.KeepEnd o s = s ≡ Asking
IsCellOf cell.PassAccept o s = s ≡ Asked
IsCellOf cell.ResetComplete o s = s ≡ Resetting
IsCellOf cell.PassReset o s = IsResetComes o
IsCellOf cell.ClearCounts o s = IsResetComes o
IsCellOf _ o s = Unit {0}

pub cell_of : (o : Occasion) (s : SectionState) → IsCellOf (section_cell s o) o s
unfolding section_row
cell_of on.Cc Asking = refl
cell_of on.Cc Waning = refl
cell_of on.Cc _ = tt
cell_of on.Cref Asked = tt
cell_of on.Cref _ = tt
cell_of on.Rlsd Asked = tt
cell_of on.Rlsd _ = tt
cell_of on.Rlc Asked = tt
cell_of on.Rlc _ = tt
cell_of on.Dt1 Up = (tt, refl)
cell_of on.Dt1 _ = tt
cell_of on.Dt2 Up = (tt, refl)
cell_of on.Dt2 _ = tt
cell_of on.Ak Asked = tt
cell_of on.Ak _ = tt
cell_of on.Ed Up = refl
cell_of on.Ed _ = tt
cell_of on.Ea Up = refl
cell_of on.Ea _ = tt
cell_of on.Rsr Resetting = refl
cell_of on.Rsr _ = tt
cell_of on.Rsc Resetting = refl
cell_of on.Rsc _ = tt
cell_of on.Err Asked = tt
cell_of on.Err _ = tt
cell_of on.It Asked = tt
cell_of on.It _ = tt
cell_of on.ConnectFires Asked = tt
cell_of on.ConnectFires _ = tt
cell_of on.ResetFires Asked = tt
cell_of on.ResetFires _ = tt
cell_of on.IarFires Asked = tt
cell_of on.IarFires _ = tt
cell_of on.IasFires Asked = tt
cell_of on.IasFires _ = tt
cell_of on.RelFires Asked = tt
cell_of on.RelFires _ = tt
cell_of on.IntFires Asked = tt
cell_of on.IntFires _ = tt
cell_of on.RepeatFires Asked = tt
cell_of on.RepeatFires _ = tt
cell_of on.AcceptComes Asked = refl
cell_of on.AcceptComes _ = tt
cell_of on.RefuseComes Asked = tt
cell_of on.RefuseComes _ = tt
cell_of on.EndComes Asking = refl
cell_of on.EndComes _ = tt
cell_of on.UnitComes Asked = tt
cell_of on.UnitComes _ = tt
cell_of on.ExpeditedComes Asked = tt
cell_of on.ExpeditedComes _ = tt
cell_of on.ResetComes Asked = tt
cell_of on.ResetComes _ = tt
cell_of on.DoneComes Asked = tt
cell_of on.DoneComes _ = tt
