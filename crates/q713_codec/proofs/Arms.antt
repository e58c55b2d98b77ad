-- A message as it is written, and what its definition says.
use Rattle.std.proofs.Common.{◌≡◌, ℕ, length, true, false, refl, ap, ◌∙◌}
use Rattle.std.specs.Prelude.{Option, Some, None}
use Rattle.q713_shape.specs.Format.{Format, Values}
use Rattle.q713_shape.specs.Inner.Nameless.{nameless}
use Rattle.q713_shape.specs.Writing.{are_in_range, octets_of}
use Rattle.q713_codec.specs.Names.{Message}
use Rattle.q713_codec.specs.Messages.{values_of_message, format_in}
use Rattle.q713_codec.specs.Writing.{is_in_range, spelling_of, spelling_within, is_within}

pub is_in_range-written : (message : Message) (format : Format) (values : Values) → format ≡ nameless (format_in message) → values ≡ values_of_message message → are_in_range format values ≡ is_in_range message
unfolding is_in_range are_in_range
is_in_range-written message format values f v = ap (λ x. are_in_range x values) f ∙ ap (are_in_range (nameless (format_in message))) v

pub spelling_of-written : (message : Message) (format : Format) (values : Values) → format ≡ nameless (format_in message) → values ≡ values_of_message message → octets_of format values ≡ spelling_of message
unfolding spelling_of octets_of
spelling_of-written message format values f v = ap (λ x. octets_of x values) f ∙ ap (octets_of (nameless (format_in message))) v

pub within-not : (most : Option ℕ) (message : Message) → is_in_range message ≡ false → None ≡ spelling_within most message
within-not most message e = rw e refl

pub within-long : (most : Option ℕ) (message : Message) → is_in_range message ≡ true → is_within most (length (spelling_of message)) ≡ false → None ≡ spelling_within most message
within-long most message e f = rw (e, f) refl

pub within-all : (most : Option ℕ) (message : Message) → is_in_range message ≡ true → is_within most (length (spelling_of message)) ≡ true → Some (spelling_of message) ≡ spelling_within most message
within-all most message e f = rw (e, f) refl
