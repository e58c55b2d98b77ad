-- What a sink holds of texts that are written one after the other.
use Rattle.std.proofs.Common.{◌≡◌, ℕ, ◌+◌, ◌<◌, List, [], ◌∷◌, get_or, codes, append_assoc, append-nil, ◌++◌, Result, Ok, Err, OnOk, OnErr, sym, ◌∙◌, ap, subst, min, length, take, drop, arith, rules, refl}
use Rattle.std.proofs.lemmas.List.{take_min, take-append-le, at_drop_more}
use Rattle.std.proofs.lemmas.List.Concat.{flat_map-append}
use Rattle.std.proofs.Math.Seq.{take-append-add}
use Rattle.std.proofs.KnownBytes.{Appends-nil, Appends-trans}
use Rattle.std.specs.Prelude.{Option}
use Rattle.std.specs.Io.KnownBytes.{Appends}
use Rattle.relay_base.specs.Causes.{Rose}
use Rattle.relay_base.specs.Streams.{AppendedPart}
use Rattle.std.specs.List.{flat_map}
use Rattle.plant_core.specs.declared.entry.Entry.{Entry}
use Rattle.journal_text.specs.Print.{book_text, controls_text, entries_text, lanes_text}
use Rattle.journal_text.specs.declared.book.Book.{Book}
use Rattle.journal_text.specs.declared.pieces.Piece.{Piece}
use Rattle.journal_text.specs.Inner.Pieces.{above_text, all_lanes_text, piece_text, pieces_text}
use Rattle.journal_text.specs.declared.writing.WriteFault.{WriteFault}
use Rattle.journal_text.specs.declared.writing.WriteFault.TheVariants as write_fault
use Rattle.journal_text.specs.Inner.Writing.{Carried, Carries, Writes}

-- a part of a text is a part of the text with more behind it
pub AppendedPart-more : (a b : Option (List ℕ)) (xs ys : List ℕ) → AppendedPart a b xs → AppendedPart a b (xs ++ ys)
AppendedPart-more a b xs ys p =
    let n = min p.0 (length xs) in
    (n, subst (Appends a b) (sym (take-append-le n xs ys (omega arith) ∙ take_min p.0 xs)) p.1)

-- a whole text and then a part of the next
pub AppendedPart-after : (a b c : Option (List ℕ)) (xs ys : List ℕ) → Appends a b xs → AppendedPart b c ys → AppendedPart a c (xs ++ ys)
AppendedPart-after a b c xs ys p q =
    (length xs + q.0, subst (Appends a c) (sym (take-append-add xs ys q.0)) (Appends-trans a b c xs _ p q.1))

-- nothing was written yet
pub Carried-nil : (a : Option (List ℕ)) (f : ℕ) (text : List ℕ) → Carried a a f f text text
Carried-nil a f text = record { written = []; went = Appends-nil a; kept = refl; same = refl }

-- one after the other: of what waits, with more behind it, a front was written
pub Carried-then : (a b c : Option (List ℕ)) (f g h : ℕ) (text waits more now : List ℕ) → Carried a b f g text (waits ++ more) → Carried b c g h waits now
    → Carried a c f h text (now ++ more)
Carried-then a b c f g h text waits more now p q = record {
  written = p.written ++ q.written;
  went = Appends-trans a b c p.written q.written p.went q.went;
  kept = q.kept ∙ p.kept;
  same = append_assoc p.written q.written (now ++ more)
      ∙ ap (λ l. p.written ++ l) (sym (append_assoc q.written now more) ∙ ap (λ l. l ++ more) q.same)
      ∙ p.same;
}

-- what was written is a part of the text
pub Carried-part : (a b : Option (List ℕ)) (f g : ℕ) (text waits : List ℕ) → Carried a b f g text waits → AppendedPart a b text
Carried-part a b f g text waits p = subst (AppendedPart a b) p.same (AppendedPart-after a b b p.written waits p.went (0, Appends-nil b))

-- and so it is where then a part was written of what waits, with more behind it
pub Carried-fails : (a b c : Option (List ℕ)) (f g : ℕ) (text waits more : List ℕ) → Carried a b f g text (waits ++ more) → AppendedPart b c waits → AppendedPart a c text
Carried-fails a b c f g text waits more p q =
    subst (AppendedPart a c) p.same (AppendedPart-after a b c p.written (waits ++ more) p.went (AppendedPart-more b c waits more q))

-- memory ran out before anything more was written
pub Carries-lacks : {U : Type 0} (a b : Option (List ℕ)) (f g : ℕ) (text waits left : List ℕ) (r : Result U WriteFault) → Carried a b f g text left → r ≡ Err write_fault.Memory
    → Carries a b f g text waits r
Carries-lacks {U} a b f g text waits left r p is = subst (Carries {T = U} a b f g text waits) (sym is) (record {
  ok = tt;
  err = Carried-part a b f g text left p;
  fault = λ s. search rules;
  kept = λ s. p.kept;
})

-- a call failed, or memory ran out in it
pub Carries-fails : {T U : Type 0} (a b c : Option (List ℕ)) (f g h : ℕ) (text xs more now waits : List ℕ) (e : WriteFault) (r : Result U WriteFault)
    → Carried a b f g text (xs ++ more) → Carries {T = T} b c g h xs now (Err e) → r ≡ Err e → Carries a c f h text waits r
Carries-fails {U = U} a b c f g h text xs more now waits e r p q is = subst (Carries {T = U} a c f h text waits) (sym is) (record {
  ok = tt;
  err = Carried-fails a b c f g text xs more p q.err;
  fault = λ s. subst (λ n. Rose n h) p.kept (q.fault (search rules));
  kept = λ s. q.kept (λ x. s (search rules)) ∙ p.kept;
})

-- a text was written, and nothing waits after it
pub Carries-written : {T : Type 0} (a b : Option (List ℕ)) (f g : ℕ) (text : List ℕ) (r : Result T WriteFault) → Writes a b f g text r → Carries {T = T} a b f g text [] r
Carries-written a b f g text (Ok x) p = record { ok = record { written = text; went = p.ok; kept = p.kept (search rules); same = append-nil text }; err = tt; fault = p.fault; kept = p.kept }
Carries-written a b f g text (Err e) p = record { ok = tt; err = p.err; fault = p.fault; kept = p.kept }

-- the entries that are left, by the first window of them
pub window-left : {X : Type 0} (print : X → List ℕ) (entries window more : List X) (text : List ℕ) → entries ≡ window ++ more
    → text ++ flat_map print entries ≡ (text ++ flat_map print window) ++ flat_map print more
window-left print entries window more text is =
    ap (λ l. text ++ flat_map print l) is
    ∙ ap (λ l. text ++ l) (flat_map-append print window more)
    ∙ sym (append_assoc text (flat_map print window) (flat_map print more))

-- another piece, and what is to come behind it
pub pieces-push : (pieces : List Piece) (piece : Piece) (text more : List ℕ) → piece_text piece ≡ text → pieces_text (pieces ++ piece ∷ []) ++ more ≡ (pieces_text pieces ++ text) ++ more
pieces-push pieces piece text more is =
    ap (λ l. l ++ more) (flat_map-append piece_text pieces (piece ∷ []) ∙ ap (λ l. pieces_text pieces ++ l) (append-nil (piece_text piece) ∙ is))

-- the line above the lanes, and behind it their print
pub book-parts : (book : Book) → codes "= control\n" ++ all_lanes_text book ≡ book_text book
book-parts book =
    let above = codes "= control\n" in
    let control = controls_text book.control in
    let conns = lanes_text (codes "conn") 0 book.conns in
    let units = lanes_text (codes "data") 0 book.units in
    sym (append_assoc above (control ++ conns) units) ∙ ap (λ l. l ++ units) (sym (append_assoc above control conns))

-- the lanes that are left, by the first of them, whose line joined the text
pub lanes-left : (name : List ℕ) (lanes : List (List Entry)) (n : ℕ) (lane entries : List Entry) (text now : List ℕ) → n < length lanes → lane ≡ get_or lanes n lane → entries ≡ lane
    → now ≡ text ++ above_text name n
    → text ++ lanes_text name n (drop n lanes) ≡ (now ++ entries_text entries) ++ lanes_text name (n + 1) (drop (n + 1) lanes)
lanes-left name lanes n lane entries text now within is same joined =
    let more = lanes_text name (n + 1) (drop (n + 1) lanes) in
    let head = above_text name n in
    let first = at_drop_more (lanes_text name n) lanes n lane within ∙ ap (λ (l : List Entry). lanes_text name n (l ∷ drop (n + 1) lanes)) (sym (same ∙ is)) in
    ap (λ l. text ++ l) first
    ∙ sym (append_assoc text (head ++ entries_text entries) more)
    ∙ ap (λ l. l ++ more) (sym (append_assoc text head (entries_text entries)))
    ∙ ap (λ l. (l ++ entries_text entries) ++ more) (sym joined)

-- the last text was carried
pub Carried-last : (a b c : Option (List ℕ)) (f g h : ℕ) (text waits now : List ℕ) → Carried a b f g text waits → Carried b c g h waits now → Carried a c f h text now
Carried-last a b c f g h text waits now p q =
    subst (Carried a c f h text) (append-nil now)
    (Carried-then a b c f g h text waits [] now (subst (Carried a b f g text) (sym (append-nil waits)) p) q)

-- a part was written of what waits
pub Carried-stops : (a b c : Option (List ℕ)) (f g : ℕ) (text waits : List ℕ) → Carried a b f g text waits → AppendedPart b c waits → AppendedPart a c text
Carried-stops a b c f g text waits p q = subst (AppendedPart a c) p.same (AppendedPart-after a b c p.written waits p.went q)

-- what waits is written at the end
pub Carried-ends : {T : Type 0} (a b c : Option (List ℕ)) (f g : ℕ) (text waits last : List ℕ) (r : Result T WriteFault) → Carried a b f g text waits → last ≡ waits
    → OnOk r (Appends b c last) → OnOk r (Appends a c text)
Carried-ends a b c f g text waits last (Ok x) p e q = subst (Appends a c) p.same (Appends-trans a b c p.written waits p.went (subst (Appends b c) e q))
Carried-ends a b c f g text waits last (Err x) p e q = tt

-- or a part of it is
pub Carried-ends-part : {T : Type 0} (a b c : Option (List ℕ)) (f g : ℕ) (text waits last : List ℕ) (r : Result T WriteFault) → Carried a b f g text waits → last ≡ waits
    → OnErr r (AppendedPart b c last) → OnErr r (AppendedPart a c text)
Carried-ends-part a b c f g text waits last (Ok x) p e q = tt
Carried-ends-part a b c f g text waits last (Err x) p e q = Carried-stops a b c f g text waits p (subst (AppendedPart b c) e q)

-- the last call carried the last text, or failed in it
pub Carries-last : {T : Type 0} (a b c : Option (List ℕ)) (f g h : ℕ) (text waits now : List ℕ) (r : Result T WriteFault) → Carried a b f g text waits → Carries b c g h waits now r
    → Carries a c f h text now r
Carries-last a b c f g h text waits now (Ok x) p q = record {
  ok = Carried-last a b c f g h text waits now p q.ok;
  err = tt;
  fault = λ s. subst (λ n. Rose n h) p.kept (q.fault s);
  kept = λ s. q.kept s ∙ p.kept;
}
Carries-last a b c f g h text waits now (Err e) p q = record {
  ok = tt;
  err = Carried-stops a b c f g text waits p q.err;
  fault = λ s. subst (λ n. Rose n h) p.kept (q.fault s);
  kept = λ s. q.kept s ∙ p.kept;
}

pub OnErr-of : {T E : Type 0} (r : Result T E) (P : Type 0) → P → OnErr r P
OnErr-of (Ok x) P p = tt
OnErr-of (Err e) P p = p
