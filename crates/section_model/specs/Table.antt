-- The tables of states and events (Q.714, Annex B, in this node's profile).
use Rattle.section_model.specs.declared.cell.SectionState.{SectionState}
use Rattle.section_model.specs.declared.cell.UserState.{UserState}
use Rattle.section_model.specs.declared.cell.SectionState.TheVariants as state
use Rattle.section_model.specs.declared.cell.UserState.TheVariants as end
use Rattle.section_model.specs.declared.cell.Occasion.{Occasion}
use Rattle.section_model.specs.declared.cell.Occasion.TheVariants as on
use Rattle.section_model.specs.declared.cell.UserOccasion.{UserOccasion}
use Rattle.section_model.specs.declared.cell.UserOccasion.TheVariants as by
use Rattle.section_model.specs.declared.cell.Cell.{Cell}
use Rattle.section_model.specs.declared.cell.Cell.TheVariants.{Nothing, Discard, Free, Confirm, ConfirmLate, Refused, Released, ReleaseCollision, TakeData, TakeNumberedData, TakeAcknowledgement, TakeExpedited, TakeExpeditedAcknowledgement, ResetByPeer, ResetComplete, ErrorReceived, TestReceived, NotAnswered, ResetExpired, PeerSilent, SendTest, ReleaseUnanswered, RepeatRelease, PassAccept, PassRefuse, PassEnd, KeepEnd, PassUnit, PassExpedited, PassReset, ClearCounts, UserAccepts, UserRefuses, UserSends, UserExpedites, UserResets, UserDisconnects, TellConfirm, TellDisconnect, TellUnit, TellExpedited, TellReset, TellResetDone}

-- A row has a cell for each state but Gone, in which nothing is heard.
pub data Row : Type 0 where
  │◌│◌│◌│◌│◌│◌│ : Cell → Cell → Cell → Cell → Cell → Cell → Row

pub data UserRow : Type 0 where
  ┃◌┃◌┃◌┃◌┃ : Cell → Cell → Cell → Cell → UserRow

abbrev pub no : Cell
no = Nothing

abbrev pub lost : Cell
lost = Discard

-- event = │ Asked │ Asking │ Waning │ Up │ Resetting │ Ending │
unfoldable pub section_row : Occasion → Row
section_row on.Cc = │ lost │ Confirm │ ConfirmLate │ lost │ lost │ lost │
section_row on.Cref = │ lost │ Refused │ Free │ lost │ lost │ lost │
section_row on.Rlsd = │ lost │ lost │ lost │ Released │ Released │ ReleaseCollision │
section_row on.Rlc = │ lost │ lost │ lost │ lost │ lost │ Free │
section_row on.Dt1 = │ lost │ lost │ lost │ TakeData │ no │ lost │
section_row on.Dt2 = │ lost │ lost │ lost │ TakeNumberedData │ lost │ lost │
section_row on.Ak = │ lost │ lost │ lost │ TakeAcknowledgement │ lost │ lost │
section_row on.Ed = │ lost │ lost │ lost │ TakeExpedited │ lost │ lost │
section_row on.Ea = │ lost │ lost │ lost │ TakeExpeditedAcknowledgement │ lost │ lost │
section_row on.Rsr = │ lost │ lost │ lost │ ResetByPeer │ ResetComplete │ lost │
section_row on.Rsc = │ lost │ lost │ lost │ lost │ ResetComplete │ lost │
section_row on.Err = │ lost │ lost │ lost │ ErrorReceived │ ErrorReceived │ Free │
section_row on.It = │ lost │ lost │ lost │ TestReceived │ TestReceived │ lost │
section_row on.ConnectFires = │ no │ NotAnswered │ Free │ no │ no │ no │
section_row on.ResetFires = │ no │ no │ no │ no │ ResetExpired │ no │
section_row on.IarFires = │ no │ no │ no │ PeerSilent │ PeerSilent │ no │
section_row on.IasFires = │ no │ no │ no │ SendTest │ SendTest │ no │
section_row on.RelFires = │ no │ no │ no │ no │ no │ ReleaseUnanswered │
section_row on.IntFires = │ no │ no │ no │ no │ no │ Free │
section_row on.RepeatFires = │ no │ no │ no │ no │ no │ RepeatRelease │
section_row on.AcceptComes = │ PassAccept │ no │ no │ no │ no │ no │
section_row on.RefuseComes = │ PassRefuse │ no │ no │ no │ no │ no │
section_row on.EndComes = │ no │ KeepEnd │ no │ PassEnd │ PassEnd │ no │
section_row on.UnitComes = │ no │ no │ no │ PassUnit │ PassUnit │ no │
section_row on.ExpeditedComes = │ no │ no │ no │ PassExpedited │ PassExpedited │ no │
section_row on.ResetComes = │ no │ no │ no │ PassReset │ ClearCounts │ no │
section_row on.DoneComes = │ no │ no │ no │ no │ no │ no │

-- event = ┃ Offered ┃ Calling ┃ Ready ┃ Renewing ┃
unfoldable pub user_row : UserOccasion → UserRow
user_row by.Accepts = ┃ UserAccepts ┃ no ┃ no ┃ no ┃
user_row by.Refuses = ┃ UserRefuses ┃ no ┃ no ┃ no ┃
user_row by.Sends = ┃ no ┃ no ┃ UserSends ┃ no ┃
user_row by.Expedites = ┃ no ┃ no ┃ UserExpedites ┃ no ┃
user_row by.Resets = ┃ no ┃ no ┃ UserResets ┃ no ┃
user_row by.Disconnects = ┃ no ┃ UserDisconnects ┃ UserDisconnects ┃ UserDisconnects ┃
user_row by.AcceptTold = ┃ no ┃ TellConfirm ┃ no ┃ no ┃
user_row by.RefuseTold = ┃ TellDisconnect ┃ TellDisconnect ┃ TellDisconnect ┃ TellDisconnect ┃
user_row by.EndTold = ┃ TellDisconnect ┃ TellDisconnect ┃ TellDisconnect ┃ TellDisconnect ┃
user_row by.UnitTold = ┃ no ┃ no ┃ TellUnit ┃ TellUnit ┃
user_row by.ExpeditedTold = ┃ no ┃ no ┃ TellExpedited ┃ TellExpedited ┃
user_row by.ResetTold = ┃ no ┃ no ┃ TellReset ┃ no ┃
user_row by.DoneTold = ┃ no ┃ no ┃ no ┃ TellResetDone ┃

abbrev pub in_state : SectionState → Row → Cell
in_state state.Asked (│ a │ b │ c │ d │ e │ f │) = a
in_state state.Asking (│ a │ b │ c │ d │ e │ f │) = b
in_state state.Waning (│ a │ b │ c │ d │ e │ f │) = c
in_state state.Up (│ a │ b │ c │ d │ e │ f │) = d
in_state state.Resetting (│ a │ b │ c │ d │ e │ f │) = e
in_state state.Ending (│ a │ b │ c │ d │ e │ f │) = f
in_state state.Gone row = Nothing

abbrev pub in_user_state : UserState → UserRow → Cell
in_user_state end.Offered (┃ a ┃ b ┃ c ┃ d ┃) = a
in_user_state end.Calling (┃ a ┃ b ┃ c ┃ d ┃) = b
in_user_state end.Ready (┃ a ┃ b ┃ c ┃ d ┃) = c
in_user_state end.Renewing (┃ a ┃ b ┃ c ┃ d ┃) = d
in_user_state end.Gone row = Nothing

abbrev pub section_cell : SectionState → Occasion → Cell
section_cell s occasion = in_state s (section_row occasion)

abbrev pub user_cell : UserState → UserOccasion → Cell
user_cell s occasion = in_user_state s (user_row occasion)
