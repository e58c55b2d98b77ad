-- What is taken of lines is the same where it is known beforehand what each of them says.
use Rattle.std.proofs.Common.{◌≡◌, ℕ, Bool, true, false, cond, codes, List, [], ◌∷◌, ◌++◌, map, Option, Some, None, Result, Ok, Err, IfOk, refl, sym, ap, subst, ◌∙◌}
use Rattle.std.specs.List.{AllByRecursion}
use Rattle.relay_base.specs.Giving.{◌>>=◌, RefusesOrMemory}
use Rattle.node_head.specs.declared.head.Head.{Head}
use Rattle.capture_form.specs.Text.{words}
use Rattle.capture_form.specs.Line.{meaning_of}
use Rattle.capture_form.specs.Groups.{is_edit, is_commit, may_stand, placed}
use Rattle.capture_form.specs.Capture.{begins, barrier_form}
use Rattle.capture_form.specs.declared.changes.OpenGroup.{OpenGroup}
use Rattle.capture_form.specs.declared.groups.Standing.TheVariants.{Edit, Commit, Other}
use Rattle.capture_form.specs.declared.fault.LineKind.{LineKind}
use Rattle.capture_form.specs.declared.fault.CaptureFault.{CaptureFault}
use Rattle.capture_form.specs.declared.line_read.LineRead.{LineRead}
use Rattle.capture_form.specs.declared.line_read.Saying.TheVariants as said
use Rattle.capture_form.specs.declared.reading.Reading.{Reading}
use Rattle.capture_form.specs.Inner.Stated.{Stated}
use Rattle.capture_form.specs.Inner.LineRead.{standing_of, may_stand_as, event_read, line_read}
use Rattle.capture_form.specs.Inner.Reader.{IsSaidWithin, IsReadWithin, at_line, at_number, barrier_taken, event_taken, line_taken, lines_taken, said_taken, read_taken, reads_taken, all_taken}
use Rattle.capture_form.proofs.LinkLemmas.{meaning-within}

-- ---- how a line may stand

stands-by : (g : Option OpenGroup) (ws : List (List ℕ)) (commit edit : Bool) → is_commit ws ≡ commit → is_edit ws ≡ edit
    → may_stand_as g (cond commit Commit (cond edit Edit Other)) ≡ may_stand g ws
stands-by None ws true edit c e = rw c refl
stands-by None ws false true c e = rw c refl
stands-by None ws false false c e = rw c refl
stands-by (Some group) ws true edit c e = rw c refl
stands-by (Some group) ws false true c e = rw (c, e) refl
stands-by (Some group) ws false false c e = rw (c, e) refl

stands-as : (g : Option OpenGroup) (ws : List (List ℕ)) → may_stand_as g (standing_of ws) ≡ may_stand g ws
stands-as g ws = stands-by g ws (is_commit ws) (is_edit ws) refl refl

-- ---- one line

words-same : (head : Head) (r : Reading) (ws : List (List ℕ)) (barrier : Bool)
    → said_taken head r (cond barrier (said.Barrier (standing_of ws) (barrier_form ws)) (said.Event (event_read head ws)))
    ≡ cond barrier (barrier_taken head r (may_stand r.group ws) (barrier_form ws)) (event_taken r (begins (codes "t") ws) (may_stand r.group ws) (meaning_of head ws))
words-same head r ws true = ap (λ stands. barrier_taken head r stands (barrier_form ws)) (stands-as r.group ws)
words-same head r ws false = ap (λ stands. event_taken r (begins (codes "t") ws) stands (meaning_of head ws)) (stands-as r.group ws)

pub read-taken : (head : Head) (r : Reading) (line : Stated) → read_taken head r (line_read head line) ≡ line_taken head r line
read-taken head r line = words-same head (at_number r line.0) (words line.1) (begins (codes "w") (words line.1))

-- ---- all lines

reads-taken-by : (head : Head) (ls : List Stated) (m : Result Reading CaptureFault) → ((r : Reading) → reads_taken head r (map (line_read head) ls) ≡ lines_taken head r ls)
    → (m >>= (λ s. reads_taken head s (map (line_read head) ls))) ≡ (m >>= (λ s. lines_taken head s ls))
reads-taken-by head ls (Ok s) h = h s
reads-taken-by head ls (Err fault) h = refl

pub reads-taken : (head : Head) (ls : List Stated) (r : Reading) → reads_taken head r (map (line_read head) ls) ≡ lines_taken head r ls
unfolding all_taken
reads-taken head [] r = refl
reads-taken head (line ∷ more) r =
    ap (λ (m : Result Reading CaptureFault). m >>= (λ s. reads_taken head s (map (line_read head) more))) (read-taken head r line)
    ∙ reads-taken-by head more (line_taken head r line) (reads-taken head more)

-- a line was taken, and those behind it come to the same
pub line-done : (head : Head) (r s : Reading) (line : Stated) (more : List Stated) (read : LineRead) (whole : Result Reading CaptureFault) → read ≡ line_read head line
    → lines_taken head r (line ∷ more) ≡ whole → read_taken head r read ≡ Ok s → lines_taken head s more ≡ whole
unfolding all_taken
line-done head r s line more read whole same all done =
    let here : line_taken head r line ≡ Ok s = sym (read-taken head r line) ∙ ap (read_taken head r) (sym same) ∙ done in
    ap (λ (m : Result Reading CaptureFault). m >>= (λ t. lines_taken head t more)) (sym here) ∙ all

-- a line was refused, and so are all
pub line-refused : (head : Head) (r : Reading) (line : Stated) (more : List Stated) (read : LineRead) (whole : Result Reading CaptureFault) (fault : Option CaptureFault)
    → read ≡ line_read head line → lines_taken head r (line ∷ more) ≡ whole → RefusesOrMemory fault (read_taken head r read) → RefusesOrMemory fault whole
unfolding all_taken
line-refused head r line more read whole None same all refused = tt
line-refused head r line more read whole (Some fault) same all refused =
    let here : line_taken head r line ≡ Err fault = sym (read-taken head r line) ∙ ap (read_taken head r) (sym same) ∙ refused in
    sym all ∙ ap (λ (m : Result Reading CaptureFault). m >>= (λ t. lines_taken head t more)) here

-- ---- lines in windows

pub lines-append : (head : Head) (xs ys : List Stated) (r : Reading) → lines_taken head r (xs ++ ys) ≡ (lines_taken head r xs >>= (λ s. lines_taken head s ys))
unfolding all_taken
lines-append head [] ys r = refl
lines-append head (line ∷ more) ys r = after (λ s. lines-append head more ys s) (line_taken head r line)
  where
    after : ((s : Reading) → lines_taken head s (more ++ ys) ≡ (lines_taken head s more >>= (λ t. lines_taken head t ys)))
        → (m : Result Reading CaptureFault) → (m >>= (λ s. lines_taken head s (more ++ ys))) ≡ ((m >>= (λ s. lines_taken head s more)) >>= (λ t. lines_taken head t ys))
    after f (Ok s) = f s
    after f (Err fault) = refl

-- what the lines of a window and those behind it come to
abbrev pub Whole : Head → Reading → List Stated → List Stated → Result Reading CaptureFault → Type 0
Whole head r window more whole = (all : List Stated) × (window ++ more ≡ all) × (lines_taken head r all ≡ whole)

window-first : (head : Head) (r : Reading) (window more : List Stated) (whole : Result Reading CaptureFault) → Whole head r window more whole
    → (lines_taken head r window >>= (λ s. lines_taken head s more)) ≡ whole
window-first head r window more whole h = sym (lines-append head window more r) ∙ ap (lines_taken head r) h.1 ∙ h.2

-- a window was taken
pub window-taken : (head : Head) (r s : Reading) (window more : List Stated) (whole : Result Reading CaptureFault) → Whole head r window more whole
    → lines_taken head r window ≡ Ok s → lines_taken head s more ≡ whole
window-taken head r s window more whole h taken =
    ap (λ (m : Result Reading CaptureFault). m >>= (λ t. lines_taken head t more)) (sym taken) ∙ window-first head r window more whole h

-- a window was refused, and so are all lines
pub window-refused : (head : Head) (r : Reading) (window more : List Stated) (whole : Result Reading CaptureFault) (fault : Option CaptureFault) → Whole head r window more whole
    → RefusesOrMemory fault (lines_taken head r window) → RefusesOrMemory fault whole
window-refused head r window more whole None h refused = tt
window-refused head r window more whole (Some fault) h refused =
    sym (window-first head r window more whole h) ∙ ap (λ (m : Result Reading CaptureFault). m >>= (λ t. lines_taken head t more)) refused

-- no line was to come
pub none-taken : (head : Head) (r : Reading) (ls : List Stated) (whole : Result Reading CaptureFault) → ls ≡ [] → lines_taken head r ls ≡ whole → whole ≡ Ok r
unfolding all_taken
none-taken head r ls whole none taken = sym taken ∙ ap (lines_taken head r) none

-- ---- links

words-within : (head : Head) (ws : List (List ℕ)) (barrier : Bool)
    → IsSaidWithin head.links (cond barrier (said.Barrier (standing_of ws) (barrier_form ws)) (said.Event (event_read head ws)))
words-within head ws true = tt
words-within head ws false = meaning-within head ws

-- what a line says is about the links of the head
pub read-within : (head : Head) (line : Stated) (read : LineRead) → read ≡ line_read head line → IsReadWithin head.links read
read-within head line read same = subst (IsReadWithin head.links) (sym same) (words-within head (words line.1) (begins (codes "w") (words line.1)))

-- and what lines say
pub reads-within : (head : Head) (ls : List Stated) → AllByRecursion (IsReadWithin head.links) (map (line_read head) ls)
reads-within head [] = tt
reads-within head (line ∷ more) = (read-within head line (line_read head line) refl, reads-within head more)

-- what holds of a line that isn't at fault holds where it may stand
pub placed-fact : {A : Type 0} (P : A → Type 0) (number : ℕ) (stands : Bool) (form : Result A LineKind) (x : A) → at_line number (placed stands form) ≡ Ok x → IfOk form P → P x
placed-fact P number true (Ok y) x e h =
    let same : y ≡ x = cc in
    subst P same h
placed-fact P number true (Err kind) x e h = absurd (cc)
placed-fact P number false (Ok y) x e h = absurd (cc)
placed-fact P number false (Err kind) x e h = absurd (cc)
