-- What is read of a capture from one end of a line to another.
use Rattle.std.proofs.Common.{◌≡◌, ℕ, ◌+◌, ◌<◌, ◌^◌, List, [], ◌∷◌, length, map, Bool, true, false, cond, not, Option, Some, None, Result, Ok, Err, refl, sym, ap, ◌∙◌, subst, arith}
use Rattle.std.specs.List.{AllByRecursion}
use Rattle.relay_base.specs.Giving.{◌>>=◌, RefusesOrMemory}
use Rattle.node_head.specs.Lines.{lines, halves}
use Rattle.node_head.specs.Head.{begun}
use Rattle.node_head.specs.declared.head.Head.{Head}
use Rattle.capture_form.specs.Capture.{Reads, at_head, is_skipped, capture_from, capture_within}
use Rattle.capture_form.specs.Inner.Stated.{Stated, numbered}
use Rattle.capture_form.specs.Inner.LineRead.{IsOfPart, line_read}
use Rattle.capture_form.specs.Inner.Reader.{IsReadWithin, closed, lines_taken, nothing_read, phases_read, reads_at, reads_taken}
use Rattle.capture_form.specs.Inner.Progress.{is_numbered, begun_from, capture_begun, capture_ended, lines_read}
use Rattle.capture_form.specs.Events.{Stamped}
use Rattle.capture_form.specs.declared.capture.Capture.{Capture}
use Rattle.capture_form.specs.declared.fault.CaptureFault.{CaptureFault}
use Rattle.capture_form.specs.declared.part.PartRead.{PartRead}
use Rattle.capture_form.specs.declared.progress.Progress.{Progress}
use Rattle.capture_form.specs.declared.reading.Reading.{Reading}
use Rattle.capture_form.proofs.ReadLemmas.{reads-taken, reads-within}
use Rattle.capture_form.proofs.ReaderLemmas.{reader-agrees}

-- ---- a capture is what it begins with, and its end

abbrev Phases : Type 0
Phases = List (List Stamped)

abbrev with_phases : Head → Phases → Result Capture CaptureFault
with_phases head phases = Ok (record { head = head; phases = phases })

abbrev phases_of : Reading → Result Phases CaptureFault
phases_of r = Ok (phases_read r)

ended-read : (head : Head) (r : Reading) (m : Result (Unit {0}) CaptureFault)
    → (m >>= (λ _. with_phases head (phases_read r))) ≡ ((m >>= (λ _. phases_of r)) >>= with_phases head)
ended-read head r (Ok u) = refl
ended-read head r (Err fault) = refl

abbrev progress_of : ℕ → Reading → Result Progress CaptureFault
progress_of number r = Ok (record { read = r; number = number })

abbrev with_head : Head → Progress → Result (Head × Progress) CaptureFault
with_head head p = Ok (head, p)

abbrev end_of : Head × Progress → Result Capture CaptureFault
end_of t = capture_ended t.0 t.1

begun-read : (head : Head) (number : ℕ) (m : Result Reading CaptureFault)
    → (m >>= (λ r. closed r.group >>= (λ _. with_phases head (phases_read r)))) ≡ (((m >>= progress_of number) >>= with_head head) >>= end_of)
begun-read head number (Ok r) = ended-read head r (closed r.group)
begun-read head number (Err fault) = refl

parts-read : (parts : Head × ℕ × List (List ℕ)) → capture_from parts ≡ (begun_from parts >>= end_of)
parts-read parts =
    sym (reader-agrees parts.0 (parts.1 + 2) parts.2)
    ∙ begun-read parts.0 (parts.1 + 2 + length parts.2) (lines_taken parts.0 (nothing_read parts.0) (numbered (parts.1 + 2) parts.2))

then-parts : (m : Result (Head × ℕ × List (List ℕ)) CaptureFault) → (m >>= capture_from) ≡ ((m >>= begun_from) >>= end_of)
then-parts (Ok parts) = parts-read parts
then-parts (Err fault) = refl

pub within-begun : (bytes : List ℕ) → capture_within bytes ≡ (capture_begun bytes >>= (λ (t : Head × Progress). capture_ended t.0 t.1))
within-begun bytes = then-parts (at_head (begun (halves (lines bytes))))

pub within-refused : (bytes : List ℕ) (fault : Option CaptureFault) → RefusesOrMemory fault (capture_begun bytes) → RefusesOrMemory fault (capture_within bytes)
within-refused bytes None e = tt
within-refused bytes (Some fault) e = within-begun bytes ∙ ap (λ (m : Result (Head × Progress) CaptureFault). m >>= end_of) e

pub within-read : (bytes : List ℕ) (head : Head) (p : Progress) (r : Result Capture CaptureFault) → capture_begun bytes ≡ Ok (head, p) → Reads r (capture_ended head p) → Reads r (capture_within bytes)
within-read bytes head p r e h = subst (Reads r) (sym (within-begun bytes ∙ ap (λ (m : Result (Head × Progress) CaptureFault). m >>= end_of) e)) h

-- ---- a part is read where it stands

-- a line that is skipped has no number among those that are not
shifted : (t : Bool) (n k : ℕ) (head : Head) (line : List ℕ) (xs ys : List Stated) → reads_at n (map (line_read head) xs) ≡ map (line_read head) ys
    → reads_at n (map (line_read head) (cond t ((k, line) ∷ xs) xs)) ≡ map (line_read head) (cond t ((n + k, line) ∷ ys) ys)
shifted true n k head line xs ys e = ap (λ l. line_read head (n + k, line) ∷ l) e
shifted false n k head line xs ys e = e

pub reads-shifted : (head : Head) (n k : ℕ) (ls : List (List ℕ)) → reads_at n (map (line_read head) (numbered k ls)) ≡ map (line_read head) (numbered (n + k) ls)
reads-shifted head n k [] = refl
reads-shifted head n k (line ∷ more) =
    shifted (not (is_skipped line)) n k head line (numbered (k + 1) more) (numbered (n + k + 1) more)
    (reads-shifted head n (k + 1) more ∙ ap (λ m. map (line_read head) (numbered m more)) (omega arith))

small : (t : Bool) (first k m : ℕ) (head : Head) (line : List ℕ) (xs : List Stated) → first + k < 2 ^ 32 → AllByRecursion (is_numbered first) (map (line_read head) xs)
    → AllByRecursion (is_numbered first) (map (line_read head) (cond t ((k, line) ∷ xs) xs))
small true first k m head line xs less all = (less, all)
small false first k m head line xs less all = all

pub reads-numbered : (head : Head) (first k : ℕ) (ls : List (List ℕ)) → first + k + length ls < 2 ^ 32 → AllByRecursion (is_numbered first) (map (line_read head) (numbered k ls))
reads-numbered head first k [] less = tt
reads-numbered head first k (line ∷ more) less =
    small (not (is_skipped line)) first k (length more) head line (numbered (k + 1) more) (omega (arith, less)) (reads-numbered head first (k + 1) more (omega (arith, less)))

-- ---- a part is taken

pub taken-then : (m : Result Reading CaptureFault) (r : Reading) (n : ℕ) → m ≡ Ok r → (m >>= progress_of n) ≡ Ok (record { read = r; number = n })
taken-then m r n e = ap (λ (x : Result Reading CaptureFault). x >>= progress_of n) e

-- what the lines of a part say, numbered as they stand, is what they say where they stand
pub part-reads : (head : Head) (p : Progress) (ls : List (List ℕ)) (part : PartRead) → IsOfPart head ls part
    → reads_taken head p.read (reads_at p.number part.reads.items) ≡ lines_taken head p.read (numbered p.number ls)
part-reads head p ls part is =
    ap (λ reads. reads_taken head p.read (reads_at p.number reads)) is.reads
    ∙ ap (reads_taken head p.read) (reads-shifted head p.number 0 ls)
    ∙ ap (λ n. reads_taken head p.read (map (line_read head) (numbered n ls))) (omega arith)
    ∙ reads-taken head (numbered p.number ls) p.read

pub taken-refused : (m : Result Reading CaptureFault) (n : ℕ) (fault : Option CaptureFault) → RefusesOrMemory fault m → RefusesOrMemory fault (m >>= progress_of n)
taken-refused m n None e = tt
taken-refused m n (Some fault) e = ap (λ (x : Result Reading CaptureFault). x >>= progress_of n) e

pub part-refused : (head : Head) (p : Progress) (ls : List (List ℕ)) (part : PartRead) (fault : Option CaptureFault) → IsOfPart head ls part
    → RefusesOrMemory fault (reads_taken head p.read (reads_at p.number part.reads.items)) → RefusesOrMemory fault (lines_read head p ls)
part-refused head p ls part fault is e =
    taken-refused (lines_taken head p.read (numbered p.number ls)) (p.number + length ls) fault (subst (RefusesOrMemory fault) (part-reads head p ls part is) e)

pub part-read : (head : Head) (p : Progress) (ls : List (List ℕ)) (part : PartRead) (r : Reading) → IsOfPart head ls part
    → reads_taken head p.read (reads_at p.number part.reads.items) ≡ Ok r → lines_read head p ls ≡ Ok (record { read = r; number = p.number + part.lines })
part-read head p ls part r is e =
    taken-then (lines_taken head p.read (numbered p.number ls)) r (p.number + length ls) (sym (part-reads head p ls part is) ∙ e)
    ∙ ap (λ n. Ok (record { read = r; number = p.number + n })) (sym is.lines)

pub part-within : (head : Head) (ls : List (List ℕ)) (part : PartRead) → IsOfPart head ls part → AllByRecursion (IsReadWithin head.links) part.reads.items
part-within head ls part is = subst (AllByRecursion (IsReadWithin head.links)) (sym is.reads) (reads-within head (numbered 0 ls))

pub part-numbered : (head : Head) (first : ℕ) (ls : List (List ℕ)) (part : PartRead) → IsOfPart head ls part → first + part.lines < 2 ^ 32 → AllByRecursion (is_numbered first) part.reads.items
part-numbered head first ls part is less =
    subst (AllByRecursion (is_numbered first)) (sym is.reads) (reads-numbered head first 0 ls (omega (arith, less, is.lines)))
