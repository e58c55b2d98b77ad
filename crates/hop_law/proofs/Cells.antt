-- In which cells what the other end hands over is taken, and what a user asks.
use Rattle.std.proofs.Common.{◌≡◌, true, refl}
use Rattle.relay_base.specs.declared.words.Request.{Request}
use Rattle.relay_base.specs.declared.words.Request.TheVariants as request
use Rattle.section_model.specs.declared.cell.Cell.{Cell}
use Rattle.section_model.specs.declared.cell.Cell.TheVariants as cell
use Rattle.section_model.specs.declared.cell.Occasion.{Occasion}
use Rattle.section_model.specs.declared.cell.Occasion.TheVariants as on
use Rattle.section_model.specs.declared.cell.SectionState.{SectionState}
use Rattle.section_model.specs.declared.cell.UserOccasion.{UserOccasion}
use Rattle.section_model.specs.declared.cell.UserOccasion.TheVariants as by
use Rattle.section_model.specs.declared.cell.UserState.{UserState}
use Rattle.section_model.specs.declared.cell.UserState.TheVariants as user
use Rattle.section_model.specs.declared.hand.Hand.{Hand}
use Rattle.section_model.specs.declared.hand.Hand.TheVariants as hand
use Rattle.section_model.specs.Table.{user_row, user_cell}
use Rattle.section_model.specs.Acting.{section_takes_by, user_takes_by}
use Rattle.section_model.specs.Step.{asking_cell}
use Rattle.hop_law.specs.Units.{carries}
use Rattle.hop_law.specs.EarlyLaw.{IsBefore}
use Rattle.connection_law.specs.InStep.{user_stage}
use Rattle.connection_law.proofs.Cells.{IsDataMessage, IsCellOf, cell_of}

-- data that a message carries
pub data_carried : (o : Occasion) → IsDataMessage o → carries o ≡ true
data_carried on.Dt1 d = refl
data_carried on.Dt2 d = refl
data_carried _ d = absurd d

-- what an effect of the other end is to a section
abbrev pub as_occasion : Hand → Occasion
as_occasion (hand.Accept class credit called body importance) = on.AcceptComes
as_occasion (hand.Refuse cause called body importance) = on.RefuseComes
as_occasion (hand.End cause body importance) = on.EndComes
as_occasion (hand.Unit more body) = on.UnitComes
as_occasion (hand.Expedited body) = on.ExpeditedComes
as_occasion (hand.Reset cause) = on.ResetComes
as_occasion hand.Done = on.DoneComes
as_occasion (hand.Left units expedited) = on.DoneComes

pub taking_cell : (h : Hand) (s : SectionState) → IsCellOf (section_takes_by s h) (as_occasion h) s
taking_cell (hand.Accept class credit called body importance) s = cell_of on.AcceptComes s
taking_cell (hand.Refuse cause called body importance) s = cell_of on.RefuseComes s
taking_cell (hand.End cause body importance) s = cell_of on.EndComes s
taking_cell (hand.Unit more body) s = cell_of on.UnitComes s
taking_cell (hand.Expedited body) s = cell_of on.ExpeditedComes s
taking_cell (hand.Reset cause) s = cell_of on.ResetComes s
taking_cell hand.Done s = cell_of on.DoneComes s
taking_cell (hand.Left units expedited) s = tt

abbrev pub IsResets : UserOccasion → Type 0
IsResets by.Resets = Unit {0}
IsResets _ = ⊥

-- And so a cell of a user's end.
abbrev pub IsUserCellOf : Cell → UserOccasion → UserState → Type 0
IsUserCellOf cell.UserSends o s = s ≡ user.Ready
IsUserCellOf cell.UserResets o s = IsResets o
IsUserCellOf cell.UserAccepts o s = IsBefore (user_stage s)
IsUserCellOf cell.TellConfirm o s = IsBefore (user_stage s)
IsUserCellOf _ o s = Unit {0}

pub user_cell_of : (o : UserOccasion) (s : UserState) → IsUserCellOf (user_cell s o) o s
unfolding user_row
user_cell_of by.Accepts user.Offered = tt
user_cell_of by.Accepts _ = tt
user_cell_of by.Refuses user.Offered = tt
user_cell_of by.Refuses _ = tt
user_cell_of by.Sends user.Ready = refl
user_cell_of by.Sends _ = tt
user_cell_of by.Expedites user.Offered = tt
user_cell_of by.Expedites _ = tt
user_cell_of by.Resets user.Offered = tt
user_cell_of by.Resets _ = tt
user_cell_of by.Disconnects user.Offered = tt
user_cell_of by.Disconnects _ = tt
user_cell_of by.AcceptTold user.Offered = tt
user_cell_of by.AcceptTold user.Calling = tt
user_cell_of by.AcceptTold _ = tt
user_cell_of by.RefuseTold user.Offered = tt
user_cell_of by.RefuseTold _ = tt
user_cell_of by.EndTold user.Offered = tt
user_cell_of by.EndTold _ = tt
user_cell_of by.UnitTold user.Offered = tt
user_cell_of by.UnitTold _ = tt
user_cell_of by.ExpeditedTold user.Offered = tt
user_cell_of by.ExpeditedTold _ = tt
user_cell_of by.ResetTold user.Offered = tt
user_cell_of by.ResetTold _ = tt
user_cell_of by.DoneTold user.Offered = tt
user_cell_of by.DoneTold _ = tt

-- what a request is to a user's end
abbrev pub as_asked : Request → UserOccasion
as_asked (request.Accept mine class credit body) = by.Accepts
as_asked (request.Refuse mine cause body) = by.Refuses
as_asked (request.Send mine body) = by.Sends
as_asked (request.Expedite mine body) = by.Expedites
as_asked (request.Reset mine) = by.Resets
as_asked (request.Disc mine cause body) = by.Disconnects
as_asked _ = by.Accepts

pub asking_cell_of : (r : Request) (s : UserState) → IsUserCellOf (asking_cell s r) (as_asked r) s
asking_cell_of (request.Accept mine class credit body) s = user_cell_of by.Accepts s
asking_cell_of (request.Refuse mine cause body) s = user_cell_of by.Refuses s
asking_cell_of (request.Send mine body) s = user_cell_of by.Sends s
asking_cell_of (request.Expedite mine body) s = user_cell_of by.Expedites s
asking_cell_of (request.Reset mine) s = user_cell_of by.Resets s
asking_cell_of (request.Disc mine cause body) s = user_cell_of by.Disconnects s
asking_cell_of _ s = tt

-- what an effect of the section is to a user's end
abbrev pub as_told : Hand → UserOccasion
as_told (hand.Accept class credit called body importance) = by.AcceptTold
as_told (hand.Refuse cause called body importance) = by.RefuseTold
as_told (hand.End cause body importance) = by.EndTold
as_told (hand.Unit more body) = by.UnitTold
as_told (hand.Expedited body) = by.ExpeditedTold
as_told (hand.Reset cause) = by.ResetTold
as_told hand.Done = by.DoneTold
as_told (hand.Left units expedited) = by.DoneTold

pub telling_cell : (h : Hand) (s : UserState) → IsUserCellOf (user_takes_by s h) (as_told h) s
telling_cell (hand.Accept class credit called body importance) s = user_cell_of by.AcceptTold s
telling_cell (hand.Refuse cause called body importance) s = user_cell_of by.RefuseTold s
telling_cell (hand.End cause body importance) s = user_cell_of by.EndTold s
telling_cell (hand.Unit more body) s = user_cell_of by.UnitTold s
telling_cell (hand.Expedited body) s = user_cell_of by.ExpeditedTold s
telling_cell (hand.Reset cause) s = user_cell_of by.ResetTold s
telling_cell hand.Done s = user_cell_of by.DoneTold s
telling_cell (hand.Left units expedited) s = tt
