-- The values of a message, by what its parts are.
use Rattle.std.proofs.Common.{◌≡◌, ℕ, ◌+◌, ◌*◌, ◌<◌, ◌==◌, true, false, List, length, take, drop, Ok, Err, refl, lt-ltb}
use Rattle.std.specs.Prelude.{Option}
use Rattle.std.proofs.lemmas.Bool.{le-ltb}
use Rattle.relay_base.specs.declared.words.ReadFault.{ReadFault}
use Rattle.relay_base.specs.declared.words.ReadFault.TheVariants.{Empty, Short}
use Rattle.q713_shape.specs.Format.{Format, pointer_width, place_behind_pointers}
use Rattle.q713_shape.specs.Inner.Pointers.{HasPointers}
use Rattle.q713_shape.specs.Reading.{filled_variables, options_at, values_of}

pub values_of-empty : (format : Format) (b : List ℕ) → (length b == 0) ≡ true → values_of format b ≡ Err Empty
unfolding values_of
values_of-empty format b e = rw e refl

pub values_of-short : (format : Format) (b : List ℕ) → (length b == 0) ≡ false → length b < place_behind_pointers format → values_of format b ≡ Err Short
unfolding values_of
values_of-short format b e h = rw (e, lt-ltb (length b) (place_behind_pointers format) h) refl

pub values_of-variable_fault : (format : Format) (b : List ℕ) (place : ℕ) (fault : ReadFault) → HasPointers format b → place ≡ 1 + length format.fixed → filled_variables format.wide b place format.vars ≡ Err fault → values_of format b ≡ Err fault
unfolding values_of
values_of-variable_fault format b place fault h p e =
    let e' : filled_variables format.wide b (1 + length format.fixed) format.vars ≡ Err fault = rw (← p) e in
    rw (h.some, le-ltb (length b) (place_behind_pointers format) h.room, e') refl

pub values_of-option_fault : (format : Format) (b : List ℕ) (place next : ℕ) (vars : List (List ℕ)) (fault : ReadFault) → HasPointers format b → place ≡ 1 + length format.fixed → next ≡ place + pointer_width format.wide * length format.vars → filled_variables format.wide b place format.vars ≡ Ok vars → options_at format.wide b next format.options ≡ Err fault → values_of format b ≡ Err fault
unfolding values_of
values_of-option_fault format b place next vars fault h p n e f =
    let e' : filled_variables format.wide b (1 + length format.fixed) format.vars ≡ Ok vars = rw (← p) e in
    let f' : options_at format.wide b (1 + length format.fixed + pointer_width format.wide * length format.vars) format.options ≡ Err fault = rw (← p, ← n) f in
    rw (h.some, le-ltb (length b) (place_behind_pointers format) h.room, e', f') refl

pub values_of-values : (format : Format) (b : List ℕ) (place next : ℕ) (fixed : List ℕ) (vars : List (List ℕ)) (options : List (Option (List ℕ))) → HasPointers format b → place ≡ 1 + length format.fixed → next ≡ place + pointer_width format.wide * length format.vars → fixed ≡ take (length format.fixed) (drop 1 b) → filled_variables format.wide b place format.vars ≡ Ok vars → options_at format.wide b next format.options ≡ Ok options → values_of format b ≡ Ok (record { fixed = fixed; vars = vars; options = options })
unfolding values_of
values_of-values format b place next fixed vars options h p n x e f =
    let e' : filled_variables format.wide b (1 + length format.fixed) format.vars ≡ Ok vars = rw (← p) e in
    let f' : options_at format.wide b (1 + length format.fixed + pointer_width format.wide * length format.vars) format.options ≡ Ok options = rw (← p, ← n) f in
    rw (h.some, le-ltb (length b) (place_behind_pointers format) h.room, e', f', x) refl
