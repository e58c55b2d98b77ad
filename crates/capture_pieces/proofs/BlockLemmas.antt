-- What the lines of blocks say is what those of all their octets say.
use Rattle.std.proofs.Common.{◌≡◌, ◌⊎◌, ℕ, ◌+◌, ◌≤◌, List, [], ◌∷◌, ◌++◌, length, map, Bool, true, false, cond, not, Option, Some, None, Result, Ok, Err, refl, sym, ap, subst, ◌∙◌, arith, append-nil, length-append, length-drop, take, drop, inl, inr}
use Rattle.std.proofs.lemmas.List.{map-append}
use Rattle.std.specs.List.{AllByRecursion}
use Rattle.bstr.specs.Text.{lines_of as pieces_of, without_terminator}
use Rattle.bstr.proofs.lemmas.LineLemmas.{lines-append, lines-nil}
use Rattle.relay_base.specs.Giving.{◌>>=◌, RefusesOrMemory}
use Rattle.node_head.specs.Lines.{lines}
use Rattle.node_head.specs.declared.head.Head.{Head}
use Rattle.capture_form.specs.Capture.{is_skipped}
use Rattle.capture_form.specs.Inner.LineRead.{IsOfPart}
use Rattle.capture_form.specs.Inner.Stated.{Stated, numbered}
use Rattle.capture_form.specs.Inner.Reader.{all_taken, lines_taken}
use Rattle.capture_form.specs.Inner.Progress.{lines_read, octets_read}
use Rattle.capture_form.specs.declared.fault.CaptureFault.{CaptureFault}
use Rattle.capture_form.specs.declared.part.PartRead.{PartRead}
use Rattle.capture_form.specs.declared.progress.Progress.{Progress}
use Rattle.capture_form.specs.declared.reading.Reading.{Reading}
use Rattle.capture_form.proofs.LengthLemmas.{length-lines}
use Rattle.capture_form.proofs.ReadLemmas.{lines-append as taken-append}
use Rattle.block_threads.specs.Items.{Beside}
use Rattle.capture_pieces.specs.Inner.Feeds.{EndsLine}
use Rattle.capture_pieces.specs.Inner.Blocks.{AreCut, Block, IsBlock, IsOfOctets, SayOctets, lines_in, lines_of}

-- ---- lines behind lines

numbered-step : (t : Bool) (n m : ℕ) (line : List ℕ) (xs ys zs : List Stated) → xs ≡ ys ++ zs → cond t ((n, line) ∷ xs) xs ≡ cond t ((n, line) ∷ ys) ys ++ zs
numbered-step true n m line xs ys zs e = ap (λ l. (n, line) ∷ l) e
numbered-step false n m line xs ys zs e = e

numbered-append : (n : ℕ) (ls ms : List (List ℕ)) → numbered n (ls ++ ms) ≡ numbered n ls ++ numbered (n + length ls) ms
numbered-append n [] ms = ap (λ k. numbered k ms) (omega arith)
numbered-append n (line ∷ more) ms =
    numbered-step (not (is_skipped line)) n 0 line (numbered (n + 1) (more ++ ms)) (numbered (n + 1) more) (numbered (n + length (line ∷ more)) ms)
    (numbered-append (n + 1) more ms ∙ ap (λ k. numbered (n + 1) more ++ numbered k ms) (omega arith))

abbrev at_number : ℕ → Reading → Result Progress CaptureFault
at_number n r = Ok (record { read = r; number = n })

then-more : (head : Head) (m : Result Reading CaptureFault) (n k : ℕ) (zs : List Stated)
    → ((m >>= (λ r. lines_taken head r zs)) >>= at_number (n + k))
    ≡ ((m >>= at_number n) >>= (λ (q : Progress). lines_taken head q.read zs >>= at_number (q.number + k)))
then-more head (Ok r) n k zs = refl
then-more head (Err fault) n k zs = refl

-- lines are read, and others behind them
pub read-more : (head : Head) (p : Progress) (ls ms : List (List ℕ)) → lines_read head p (ls ++ ms) ≡ (lines_read head p ls >>= (λ q. lines_read head q ms))
read-more head p ls ms =
    ap (λ xs. lines_taken head p.read xs >>= at_number (p.number + length (ls ++ ms))) (numbered-append p.number ls ms)
    ∙ ap (λ m. m >>= at_number (p.number + length (ls ++ ms))) (taken-append head (numbered p.number ls) (numbered (p.number + length ls) ms) p.read)
    ∙ ap (λ n. (lines_taken head p.read (numbered p.number ls) >>= (λ r. lines_taken head r (numbered (p.number + length ls) ms))) >>= at_number n) (omega (arith, length-append ls ms))
    ∙ then-more head (lines_taken head p.read (numbered p.number ls)) (p.number + length ls) (length ms) (numbered (p.number + length ls) ms)
    ∙ then-numbered (lines_taken head p.read (numbered p.number ls))
  where
    then-numbered : (m : Result Reading CaptureFault)
        → ((m >>= at_number (p.number + length ls)) >>= (λ (q : Progress). lines_taken head q.read (numbered (p.number + length ls) ms) >>= at_number (q.number + length ms)))
        ≡ ((m >>= at_number (p.number + length ls)) >>= (λ q. lines_read head q ms))
    then-numbered (Ok r) = refl
    then-numbered (Err fault) = refl

-- none are read
pub read-none : (head : Head) (p : Progress) → octets_read head p [] ≡ Ok p
unfolding all_taken
read-none head p = ap (λ (ls : List (List ℕ)). lines_read head p ls) no-lines ∙ numbered-same p.number (omega arith)
  where
    no-lines : lines [] ≡ []
    no-lines = ap (λ (ls : List (List ℕ)). map without_terminator ls) lines-nil

    numbered-same : (n : ℕ) → p.number + 0 ≡ n → lines_read head p [] ≡ Ok (record { read = p.read; number = n })
    numbered-same n e = subst (λ (k : ℕ). lines_read head p [] ≡ at_number k p.read) e refl

-- ---- octets behind octets

-- the lines of octets that end a line, and of those behind them
pub lines-behind : (xs ys : List ℕ) → EndsLine xs → lines (xs ++ ys) ≡ lines xs ++ lines ys
lines-behind xs ys ends =
    ap (λ (ls : List (List ℕ)). map without_terminator ls) (lines-append (length xs) xs ys (omega arith) ends) ∙ map-append without_terminator (pieces_of xs) (pieces_of ys)

-- ---- blocks

pub say-none : (head : Head) (octets : List ℕ) → length octets ≡ 0 → SayOctets head octets []
unfolding SayOctets
say-none head [] none = refl
say-none head (x ∷ xs) none = absurd (omega (arith, none))

-- octets that are cut at the end of a line, or at their own
parted-lines : (xs ys : List ℕ) → (length ys ≡ 0) ⊎ EndsLine xs → lines (xs ++ ys) ≡ lines xs ++ lines ys
parted-lines xs [] (inl e) = ap lines (append-nil xs) ∙ sym (append-nil (lines xs)) ∙ ap (λ l. lines xs ++ l) (sym (ap (λ (ls : List (List ℕ)). map without_terminator ls) lines-nil))
parted-lines xs (y ∷ ys) (inl e) = absurd (omega (arith, e))
parted-lines xs ys (inr ends) = lines-behind xs ys ends

pub say-more : (head : Head) (octets block rest : List ℕ) (first : Block) (more : List Block) → octets ≡ block ++ rest → (length rest ≡ 0) ⊎ EndsLine block → IsOfOctets head block first
    → SayOctets head rest more → SayOctets head octets (first ∷ more)
unfolding SayOctets
say-more head octets block rest first more parted cut said says = (block, rest, parted, ap lines parted ∙ parted-lines block rest cut, said, says)

-- what is left of octets when a block of them was taken
pub record Left (head : Head) (start : Progress) (octets : List ℕ) (p : Progress) (blocks : List Block) : Type 0 where
  pub left : List ℕ
  pub says : SayOctets head left blocks
  pub same : octets_read head start octets ≡ octets_read head p left

pub left-first : (head : Head) (p : Progress) (octets : List ℕ) (blocks : List Block) → SayOctets head octets blocks → Left head p octets p blocks
left-first head p octets blocks says = record { left = octets; says = says; same = refl }

-- a block of them was taken
pub left-next : (head : Head) (start p q : Progress) (octets : List ℕ) (part : PartRead) (more : List Block) → Left head start octets p (Ok part ∷ more)
    → ((block : List ℕ) → IsOfPart head (lines block) part → octets_read head p block ≡ Ok q) → Left head start octets q more
unfolding SayOctets
left-next head start p q octets part more all taken =
    let (block, rest, parted, broken, said, says) = all.says in
    record {
      left = rest;
      says = says;
      same = all.same ∙ ap (lines_read head p) broken ∙ read-more head p (lines block) (lines rest)
          ∙ ap (λ (m : Result Progress CaptureFault). m >>= (λ r. lines_read head r (lines rest))) (taken block said);
    }

-- or refused
pub left-refused : (head : Head) (start p : Progress) (octets : List ℕ) (part : PartRead) (more : List Block) (fault : Option CaptureFault) → Left head start octets p (Ok part ∷ more)
    → ((block : List ℕ) → IsOfPart head (lines block) part → RefusesOrMemory fault (octets_read head p block)) → RefusesOrMemory fault (octets_read head start octets)
unfolding SayOctets
left-refused head start p octets part more None all refused = tt
left-refused head start p octets part more (Some fault) all refused =
    let (block, rest, parted, broken, said, says) = all.says in
    all.same ∙ ap (lines_read head p) broken ∙ read-more head p (lines block) (lines rest)
    ∙ ap (λ (m : Result Progress CaptureFault). m >>= (λ r. lines_read head r (lines rest))) (refused block said)

-- all were taken
pub left-none : (head : Head) (start p : Progress) (octets : List ℕ) (blocks : List Block) → blocks ≡ [] → Left head start octets p blocks → octets_read head start octets ≡ Ok p
unfolding SayOctets
left-none head start p octets [] none all = all.same ∙ ap (octets_read head p) all.says ∙ read-none head p
left-none head start p octets (b ∷ bs) none all = absurd (cc)

-- ---- their number

pub say-few : (head : Head) (octets : List ℕ) (blocks : List Block) → SayOctets head octets blocks → lines_in blocks ≤ length octets
unfolding SayOctets lines_in
say-few head octets [] says = omega arith
say-few head octets (first ∷ more) (block, rest, parted, broken, said, says) =
    omega (arith, few-of first said, say-few head rest more says, ap length parted, length-append block rest)
  where
    few-of : (b : Block) → IsOfOctets head block b → lines_of b ≤ length block
    few-of (Ok part) said = omega (arith, said.lines, length-lines block)
    few-of (Err memory) said = omega arith

pub say-blocks : (head : Head) (octets : List ℕ) (blocks : List Block) → SayOctets head octets blocks → AllByRecursion (IsBlock head) blocks
unfolding SayOctets
say-blocks head octets [] says = tt
say-blocks head octets (first ∷ more) (block, rest, parted, broken, said, says) = ((block, said), say-blocks head rest more says)

pub lines-more : (first : Block) (more : List Block) → lines_in (first ∷ more) ≡ lines_of first + lines_in more
unfolding lines_in
lines-more first more = refl

pub lines-none : (blocks : List Block) → blocks ≡ [] → lines_in blocks ≡ 0
unfolding lines_in
lines-none [] none = refl
lines-none (b ∷ bs) none = absurd (cc)

-- octets that are cut there are cut at the end of a line, or nothing is left
pub cut-lines : (octets block rest : List ℕ) (n : ℕ) → block ≡ take n octets → rest ≡ drop n octets → (n ≡ length octets) ⊎ EndsLine (take n octets) → (length rest ≡ 0) ⊎ EndsLine block
cut-lines octets block rest n front back (inl all) = inl (omega (arith, ap length back, length-drop n octets, all))
cut-lines octets block rest n front back (inr ends) = inr (subst EndsLine (sym front) ends)

module _ {B : Type 0} (now : B → List ℕ) where
  pub cut-none : (octets : List ℕ) → octets ≡ [] → AreCut now octets []
  unfolding AreCut
  cut-none octets none = none

  pub cut-more : (octets : List ℕ) (first : B) (rest : List ℕ) (more : List B) → octets ≡ now first ++ rest → (length rest ≡ 0) ⊎ EndsLine (now first) → AreCut now rest more → AreCut now octets (first ∷ more)
  unfolding AreCut
  cut-more octets first rest more parted ends behind = (rest, parted, ends, behind)

  -- what is read of blocks that were cut is what the octets say
  pub say-each : (head : Head) {is_of : B → Block → Type 0} (octets : List ℕ) (cut : List B) (said : List Block)
      → AreCut now octets cut → Beside is_of cut said → ((b : B) (x : Block) → is_of b x → IsOfOctets head (now b) x) → SayOctets head octets said
  unfolding AreCut
  say-each head octets [] [] none each same = say-none head octets (ap length none)
  say-each head octets (b ∷ bs) [] parts each same = absurd each
  say-each head octets [] (x ∷ xs) none each same = absurd each
  say-each head octets (b ∷ bs) (x ∷ xs) (rest, whole, ends, behind) (here, more) same =
      say-more head octets (now b) rest x xs whole ends (same b x here) (say-each head rest bs xs behind more same)
