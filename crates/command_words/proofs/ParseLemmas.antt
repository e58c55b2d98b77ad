-- The parser takes the words of a command, and finds what they give.
use Rattle.std.proofs.Common.{◌≡◌, ◌∙◌, ℕ, ◌≤◌, ◌==◌, ◌||◌, ◌&&◌, nat_lt, cond, codes, Bool, true, false, List, [], ◌∷◌, length, Option, Some, None, refl, sym, ap, ap₂, subst, option_map, map, String, Global, arith}
use Rattle.std.proofs.lemmas.Bool.{eqb-true, eq-eqb}
use Rattle.std.specs.Cmp.Lexicographic.{same_text}
use Rattle.std.specs.List.{list_all, list_any}
use Rattle.clap.specs.Words.{Row, Text, first_of, is_simple, subcommand_name_of, subcommand_of, subcommand_rows_of, takes}
use Rattle.clap.specs.Walk.{Held, Rule, Walk, after_step, arg_by_index, finished, idle, nothing_held, to_positional, value, walk, walk_from, walked, word_met}
use Rattle.clap.specs.Simple.{Shape, built_leaf, inherited, marked_built, with_leaf_noted}
use Rattle.clap.specs.Takes.{default_passes, is_valid, level_passes, settle_passes, step_passes, turn_passes, walk_passes, word_passes}
use Rattle.clap.specs.declared.parser.ArgMatches.{ArgMatches}
use Rattle.clap.specs.declared.parser.ArgMatches.TheViews.{out-ArgMatches}
use Rattle.clap.proofs.OnLiterals.{clap_on_literals}
use Rattle.relay_base.specs.declared.limits.TheConstants.{MOST_GENERATED_LINES}
use Rattle.relay_base.specs.Decimal.{is_number, digits_value, number_of}
use Rattle.command_words.specs.Commands.{same, within, number_in, generate_of, generate_in, stream_in, command_of_word, command_in}
use Rattle.command_words.specs.Inner.Parser.{texts, generate_app, relay_app, command_found, command_of_rows, is_refused}
use Rattle.command_words.specs.declared.command.Command.{Command}
use Rattle.command_words.specs.declared.command.Command.TheVariants.{Run, Stream, Frames, Chain, Audit}

-- ---- what the parser makes of the words of a command

-- `gen`, and two words that are not empty
abbrev gen_words : ℕ → List ℕ → ℕ → List ℕ → List Text
gen_words a xs b ys = codes "gen" ∷ (a ∷ xs) ∷ (b ∷ ys) ∷ []

-- the name of a subcommand, and what is given
abbrev Given : Type 0
Given = Text × Option Text × Option Text × Option Text

abbrev given_in : Option (Text × List Row) → Option Given
given_in found = option_map (λ p. (p.0, first_of (codes "number") p.1, first_of (codes "lines") p.1, first_of (codes "output") p.1)) found

run_taken : takes relay_app (codes "run" ∷ []) ≡ true
unfolding clap_on_literals
run_taken = refl

run_found : given_in (subcommand_of relay_app (codes "run" ∷ [])) ≡ Some (codes "run", None, None, None)
unfolding clap_on_literals
run_found = refl

stream_taken : takes relay_app (codes "m3ua" ∷ []) ≡ true
unfolding clap_on_literals
stream_taken = refl

stream_found : given_in (subcommand_of relay_app (codes "m3ua" ∷ [])) ≡ Some (codes "m3ua", None, None, None)
unfolding clap_on_literals
stream_found = refl

frames_taken : takes relay_app (codes "m3ua" ∷ codes "frames" ∷ []) ≡ true
unfolding clap_on_literals
frames_taken = refl

frames_found : given_in (subcommand_of relay_app (codes "m3ua" ∷ codes "frames" ∷ [])) ≡ Some (codes "m3ua", None, None, Some (codes "frames"))
unfolding clap_on_literals
frames_found = refl

chain_taken : takes relay_app (codes "chain" ∷ []) ≡ true
unfolding clap_on_literals
chain_taken = refl

chain_found : given_in (subcommand_of relay_app (codes "chain" ∷ [])) ≡ Some (codes "chain", None, None, None)
unfolding clap_on_literals
chain_found = refl

audit_taken : takes relay_app (codes "audit" ∷ []) ≡ true
unfolding clap_on_literals
audit_taken = refl

audit_found : given_in (subcommand_of relay_app (codes "audit" ∷ [])) ≡ Some (codes "audit", None, None, None)
unfolding clap_on_literals
audit_found = refl

-- ---- a word that no dash begins, after a subcommand

-- between two words, where nothing waits and nothing was stopped
abbrev at : Held → ℕ → Walk
at h position = record { held = h; waiting = idle; position = position; is_trailing = false; stopped = None }

word-plain : (c : List Rule) (a : ℕ) (xs : Text) (h : Held) (position : ℕ) → (a == 45) ≡ false → word_met c [] false idle position (a ∷ xs) h ≡ (h, value)
word-plain c a xs h position plain = rw (plain, plain) refl

other-plain : (s : Shape) (a : ℕ) (xs : Text) (h : Held) → (a == 45) ≡ false → word_passes s [] false idle (a ∷ xs) h ≡ true
other-plain s a xs h plain = rw (plain, plain) refl

step-plain : (c : List Rule) (a : ℕ) (xs : Text) (h : Held) (position : ℕ) → (a == 45) ≡ false
    → walked c [] (at h position) (a ∷ xs) ≡ to_positional c (arg_by_index c position) (a ∷ xs) (at h position) h
unfolding walked
step-plain c a xs h position plain = ap (λ met. after_step c (a ∷ xs) (at h position) met.0 met.1) (word-plain c a xs h position plain)

turn-plain : (s : Shape) (a : ℕ) (xs : Text) (h : Held) (position : ℕ) → (a == 45) ≡ false
    → turn_passes s [] (at h position) (a ∷ xs) ≡ step_passes s position h value
turn-plain s a xs h position plain = ap₂ (λ passes met. passes && step_passes s position met.0 met.1) (other-plain s a xs h plain) (word-plain s.rules a xs h position plain)

-- ---- the words after `gen`

-- `gen` as it is built
abbrev gen_shape : Shape
gen_shape = built_leaf (inherited (with_leaf_noted (marked_built relay_app.top)) generate_app.top)

abbrev after_number : Text → Walk
after_number number = to_positional gen_shape.rules (arg_by_index gen_shape.rules 1) number (at nothing_held 1) nothing_held

abbrev after_lines : Text → Text → Walk
after_lines number lines = to_positional gen_shape.rules (arg_by_index gen_shape.rules 2) lines (after_number number) (after_number number).held

gen-walk : (a b : ℕ) (xs ys : List ℕ) → (a == 45) ≡ false → (b == 45) ≡ false → walk gen_shape.rules [] nothing_held ((a ∷ xs) ∷ (b ∷ ys) ∷ []) ≡ after_lines (a ∷ xs) (b ∷ ys)
gen-walk a b xs ys first second =
    ap (λ w. walked gen_shape.rules [] w (b ∷ ys)) (step-plain gen_shape.rules a xs nothing_held 1 first)
    ∙ step-plain gen_shape.rules b ys (after_number (a ∷ xs)).held 2 second

gen-passes : (a b : ℕ) (xs ys : List ℕ) → (a == 45) ≡ false → (b == 45) ≡ false → walk_passes gen_shape [] (walk_from nothing_held) ((a ∷ xs) ∷ (b ∷ ys) ∷ []) ≡ true
unfolding walk_passes
gen-passes a b xs ys first second =
    ap₂ (λ t u. t && (u && true)) (turn-plain gen_shape a xs nothing_held 1 first)
    (ap (λ w. turn_passes gen_shape [] w (b ∷ ys)) (step-plain gen_shape.rules a xs nothing_held 1 first)
    ∙ turn-plain gen_shape b ys (after_number (a ∷ xs)).held 2 second)

gen-level : (a b : ℕ) (xs ys : List ℕ) → (a == 45) ≡ false → (b == 45) ≡ false → level_passes gen_shape [] nothing_held ((a ∷ xs) ∷ (b ∷ ys) ∷ []) false ≡ true
gen-level a b xs ys first second =
    ap₂ (λ p (w : Walk). p && (settle_passes gen_shape.rules gen_shape.args_override_self w.held
    && (list_all default_passes gen_shape.rules && is_valid gen_shape (finished gen_shape.rules w.held) false)))
    (gen-passes a b xs ys first second) (gen-walk a b xs ys first second)

gen_taken : (a b : ℕ) (xs ys : List ℕ) → (a == 45) ≡ false → (b == 45) ≡ false → takes relay_app (gen_words a xs b ys) ≡ true
unfolding clap_on_literals
gen_taken a b xs ys first second = ap (λ b. b && true) (gen-level a b xs ys first second)

gen_found : (a b : ℕ) (xs ys : List ℕ) → (a == 45) ≡ false → (b == 45) ≡ false
    → given_in (subcommand_of relay_app (gen_words a xs b ys)) ≡ Some (codes "gen", Some (a ∷ xs), Some (b ∷ ys), None)
unfolding clap_on_literals
gen_found a b xs ys first second = ap (λ (w : Walk). given_in (Some (codes "gen", finished gen_shape.rules w.held))) (gen-walk a b xs ys first second)

-- the command of what is given
abbrev of_given : Option Given → List Text → Option Command
of_given None ws = None
of_given (Some g) ws = command_found g.0 g.1 g.2 g.3 ws

rows-given : (found : Option (Text × List Row)) (ws : List Text) → command_of_rows found ws ≡ of_given (given_in found) ws
rows-given None ws = refl
rows-given (Some p) ws = refl

-- ---- tests

same-self : (word : List ℕ) → same word word ≡ true
same-self [] = refl
same-self (x ∷ xs) = ap₂ (λ a b. a && b) (eq-eqb x x refl) (same-self xs)

both : (a b : Bool) → (a && b) ≡ true → (a ≡ true) × (b ≡ true)
both true true h = (refl, refl)
both true false h = cc
both false true h = cc
both false false h = cc

chosen : (b : Bool) (x : Option Command) (c : Command) → cond b x None ≡ Some c → (b ≡ true) × (x ≡ Some c)
chosen true x c h = (refl, h)
chosen false x c h = cc

-- ---- what a command's words are

given_some : (x y : Option ℕ) (c : Command) → generate_of x y ≡ Some c → (n : ℕ) × (k : ℕ) × (x ≡ Some n) × (y ≡ Some k)
given_some None None c h = cc
given_some None (Some k) c h = cc
given_some (Some n) None c h = cc
given_some (Some n) (Some k) c h = (n, k, refl, refl)

not_number : (xs : List ℕ) → is_number (45 ∷ xs) ≡ false
not_number xs = go (length (45 ∷ xs) == 0 || nat_lt 10 (length (45 ∷ xs)))
  where
    go : (b : Bool) → cond b false false ≡ false
    go true = refl
    go false = refl

-- a dash begins no number, and no word of none is one
dashed_none : (least most : ℕ) (xs : List ℕ) → number_in least most (45 ∷ xs) ≡ None
unfolding number_in number_of
dashed_none least most xs = ap (λ b. within least most (cond b (Some (digits_value (45 ∷ xs))) None)) (not_number xs)

empty_none : (least most : ℕ) → number_in least most [] ≡ None
unfolding number_in number_of
empty_none least most = refl

-- a number has a first octet, which is no dash
record Begins (word : List ℕ) : Type 0 where
  first : ℕ
  more : List ℕ
  whole : word ≡ first ∷ more
  plain : (first == 45) ≡ false

begins : (least most n : ℕ) (word : List ℕ) → number_in least most word ≡ Some n → Begins word
begins least most n [] h = (let none : ◌≡◌ {A = Option ℕ} None (Some n) = sym (empty_none least most) ∙ h in cc)
begins least most n (a ∷ xs) h = go (a == 45) refl
  where
    go : (b : Bool) → (a == 45) ≡ b → Begins (a ∷ xs)
    go true t =
        let none : number_in least most (a ∷ xs) ≡ None = subst (λ d. number_in least most (d ∷ xs) ≡ None) (sym (eqb-true a 45 t)) (dashed_none least most xs) in
        let both_ways : ◌≡◌ {A = Option ℕ} None (Some n) = sym none ∙ h in
        cc
    go false t = record { first = a; more = xs; whole = refl; plain = t }

-- ---- the words of a command are taken, not refused, and found

record Holds (ws : List Text) : Type 0 where
  taken : takes relay_app ws ≡ true
  free : is_refused ws ≡ false
  found : command_of_rows (subcommand_of relay_app ws) ws ≡ command_in ws

-- these words, of which the parser finds this
holds-by : (ws : List Text) (g : Given) → takes relay_app ws ≡ true → is_refused ws ≡ false → given_in (subcommand_of relay_app ws) ≡ Some g → of_given (Some g) ws ≡ command_in ws
    → Holds ws
holds-by ws g taken free found command = record {
  taken = taken;
  free = free;
  found = rows-given (subcommand_of relay_app ws) ws ∙ ap (λ g. of_given g ws) found ∙ command;
}

run-holds : Holds (codes "run" ∷ [])
run-holds = holds-by (codes "run" ∷ []) (codes "run", None, None, None) run_taken refl run_found refl

stream-holds : Holds (codes "m3ua" ∷ [])
stream-holds = holds-by (codes "m3ua" ∷ []) (codes "m3ua", None, None, None) stream_taken refl stream_found refl

frames-holds : Holds (codes "m3ua" ∷ codes "frames" ∷ [])
frames-holds = holds-by (codes "m3ua" ∷ codes "frames" ∷ []) (codes "m3ua", None, None, Some (codes "frames")) frames_taken refl frames_found refl

chain-holds : Holds (codes "chain" ∷ [])
chain-holds = holds-by (codes "chain" ∷ []) (codes "chain", None, None, None) chain_taken refl chain_found refl

audit-holds : Holds (codes "audit" ∷ [])
audit-holds = holds-by (codes "audit" ∷ []) (codes "audit", None, None, None) audit_taken refl audit_found refl

gen-found : (a b : ℕ) (xs ys : List ℕ) → (a == 45) ≡ false → (b == 45) ≡ false
    → command_of_rows (subcommand_of relay_app (gen_words a xs b ys)) (gen_words a xs b ys) ≡ generate_in (a ∷ xs) (b ∷ ys)
gen-found a b xs ys first second =
    rows-given (subcommand_of relay_app (gen_words a xs b ys)) (gen_words a xs b ys)
    ∙ ap (λ g. of_given g (gen_words a xs b ys)) (gen_found a b xs ys first second)
    ∙ ap₂ (λ s t. cond (s && t) (generate_in (a ∷ xs) (b ∷ ys)) None) (same-self (a ∷ xs)) (same-self (b ∷ ys))

gen-plain : (a b : ℕ) (xs ys : List ℕ) → (a == 45) ≡ false → (b == 45) ≡ false → Holds (gen_words a xs b ys)
gen-plain a b xs ys first second = record {
  taken = gen_taken a b xs ys first second;
  free = ap₂ (λ s t. (s || (t || false)) || false) first second;
  found = gen-found a b xs ys first second;
}

gen-holds : (number lines : List ℕ) (c : Command) → generate_in number lines ≡ Some c → Holds (codes "gen" ∷ number ∷ lines ∷ [])
gen-holds number lines c h =
    let some = given_some (number_in 0 4294967295 number) (number_in 1 MOST_GENERATED_LINES lines) c h in
    let n = begins 0 4294967295 some.0 number some.2 in
    let l = begins 1 MOST_GENERATED_LINES some.1 lines some.3 in
    subst (λ w. Holds (codes "gen" ∷ w ∷ lines ∷ [])) (sym n.whole)
    (subst (λ w. Holds (codes "gen" ∷ (n.first ∷ n.more) ∷ w ∷ [])) (sym l.whole) (gen-plain n.first l.first n.more l.more n.plain l.plain))

-- a word that is a text
of-text : (P : Text → Type 0) (word text : Text) → same word text ≡ true → P text → P word
of-text P word text e p = subst P (sym (same_text word text (sym e))) p

word-holds : (word : Text) (c : Command) → command_of_word word ≡ Some c → Holds (word ∷ [])
word-holds word c h = by (same word (codes "run")) (same word (codes "m3ua")) (same word (codes "chain")) (same word (codes "audit")) refl refl refl refl h
  where
    by : (run stream chain audit : Bool) → same word (codes "run") ≡ run → same word (codes "m3ua") ≡ stream → same word (codes "chain") ≡ chain → same word (codes "audit") ≡ audit
        → cond run (Some Run) (cond stream (Some Stream) (cond chain (Some Chain) (cond audit (Some Audit) None))) ≡ Some c → Holds (word ∷ [])
    by true stream chain audit e f i j g = of-text (λ w. Holds (w ∷ [])) word (codes "run") e run-holds
    by false true chain audit e f i j g = of-text (λ w. Holds (w ∷ [])) word (codes "m3ua") f stream-holds
    by false false true audit e f i j g = of-text (λ w. Holds (w ∷ [])) word (codes "chain") i chain-holds
    by false false false true e f i j g = of-text (λ w. Holds (w ∷ [])) word (codes "audit") j audit-holds
    by false false false false e f i j g = cc

words-hold : (word output : Text) (c : Command) → cond (same word (codes "m3ua")) (stream_in output) None ≡ Some c → Holds (word ∷ output ∷ [])
words-hold word output c h =
    let stream = chosen (same word (codes "m3ua")) (stream_in output) c h in
    let frames = chosen (same output (codes "frames")) (Some Frames) c stream.1 in
    of-text (λ w. Holds (w ∷ output ∷ [])) word (codes "m3ua") stream.0
    (of-text (λ w. Holds (codes "m3ua" ∷ w ∷ [])) output (codes "frames") frames.0 frames-holds)

stated-holds : (ws : List Text) (c : Command) → command_in ws ≡ Some c → Holds ws
stated-holds [] c h = cc
stated-holds (word ∷ []) c h = word-holds word c h
stated-holds (word ∷ output ∷ []) c h = words-hold word output c h
stated-holds (word ∷ number ∷ lines ∷ []) c h =
    let gen = chosen (same word (codes "gen")) (generate_in number lines) c h in
    of-text (λ w. Holds (w ∷ number ∷ lines ∷ [])) word (codes "gen") gen.0 (gen-holds number lines c gen.1)
stated-holds (word ∷ number ∷ lines ∷ next ∷ more) c h = cc

-- ---- what is found is a command of the words

found-word : (name word : Text) (c : Command) → cond (same word name) (command_of_word name) None ≡ Some c → command_of_word word ≡ Some c
found-word name word c h =
    let found = chosen (same word name) (command_of_word name) c h in
    of-text (λ w. command_of_word w ≡ Some c) word name found.0 found.1

found-stream : (name word output : Text) (given : Bool) (c : Command)
    → cond (same name (codes "m3ua") && (same word name && given)) (stream_in output) None ≡ Some c → command_in (word ∷ output ∷ []) ≡ Some c
found-stream name word output given c h =
    let found = chosen (same name (codes "m3ua") && (same word name && given)) (stream_in output) c h in
    let tests = both (same name (codes "m3ua")) (same word name && given) found.0 in
    let is : word ≡ codes "m3ua" = same_text word name (sym (both (same word name) given tests.1).0) ∙ same_text name (codes "m3ua") (sym tests.0) in
    subst (λ w. command_in (w ∷ output ∷ []) ≡ Some c) (sym is) found.1

found-gen : (name word first second : Text) (given : Bool) (c : Command)
    → cond (same name (codes "gen") && (same word name && given)) (generate_in first second) None ≡ Some c → command_in (word ∷ first ∷ second ∷ []) ≡ Some c
found-gen name word first second given c h =
    let gen = chosen (same name (codes "gen") && (same word name && given)) (generate_in first second) c h in
    let tests = both (same name (codes "gen")) (same word name && given) gen.0 in
    let is : word ≡ codes "gen" = same_text word name (sym (both (same word name) given tests.1).0) ∙ same_text name (codes "gen") (sym tests.0) in
    subst (λ w. command_in (w ∷ first ∷ second ∷ []) ≡ Some c) (sym is) gen.1

found-stated : (name : Text) (number lines output : Option Text) (ws : List Text) (c : Command) → command_found name number lines output ws ≡ Some c → command_in ws ≡ Some c
found-stated name number lines output [] c h = h
found-stated name number lines output (word ∷ []) c h = found-word name word c h
found-stated name number lines output (word ∷ second ∷ []) c h = found-stream name word second _ c h
found-stated name number lines output (word ∷ first ∷ second ∷ []) c h = found-gen name word first second _ c h
found-stated name number lines output (word ∷ first ∷ second ∷ next ∷ more) c h = h

rows-stated : (found : Option (Text × List Row)) (ws : List Text) (c : Command) → command_of_rows found ws ≡ Some c → command_in ws ≡ Some c
rows-stated None ws c h = cc
rows-stated (Some p) ws c h = found-stated p.0 (first_of (codes "number") p.1) (first_of (codes "lines") p.1) (first_of (codes "output") p.1) ws c h

-- ---- what the reading of the words cites

-- refused words state no command
pub refused-none : (ws : List Text) → is_refused ws ≡ true → None ≡ command_in ws
refused-none ws refused = go (command_in ws) refl
  where
    go : (o : Option Command) → command_in ws ≡ o → None ≡ o
    go None e = refl
    go (Some c) e = (let both_ways : true ≡ false = sym refused ∙ (stated-holds ws c e).free in cc)

-- words that are not taken state no command
pub untaken-none : (ws : List Text) → (takes relay_app ws ≡ true → ⊥) → None ≡ command_in ws
untaken-none ws untaken = go (command_in ws) refl
  where
    go : (o : Option Command) → command_in ws ≡ o → None ≡ o
    go None e = refl
    go (Some c) e = absurd (untaken (stated-holds ws c e).taken)

-- equal values give the same command
pub found-alike : (name : Text) (words : List Text) (number lines output n l o : Option Text) → number ≡ n → lines ≡ l → output ≡ o → command_found name number lines output words ≡ command_found name n l o words
found-alike name words number lines output n l o e f g = ap₂ (λ a b. command_found name a b output words) e f ∙ ap (λ a. command_found name n l a words) g

-- more than three words state none
pub long_none : (name : Text) (number lines output : Option Text) (words : List (String Global)) → 4 ≤ length words → None ≡ command_found name number lines output (texts words)
long_none name number lines output [] h = absurd (omega (arith, h))
long_none name number lines output (a ∷ []) h = absurd (omega (arith, h))
long_none name number lines output (a ∷ b ∷ []) h = absurd (omega (arith, h))
long_none name number lines output (a ∷ b ∷ c ∷ []) h = absurd (omega (arith, h))
long_none name number lines output (a ∷ b ∷ c ∷ d ∷ more) h = refl

-- what the parser finds in the words is the command that they state
pub found-exact : (ws : List Text) → command_of_rows (subcommand_of relay_app ws) ws ≡ command_in ws
found-exact ws = go (command_in ws) refl (command_of_rows (subcommand_of relay_app ws) ws) refl
  where
    go : (o : Option Command) → command_in ws ≡ o → (p : Option Command) → command_of_rows (subcommand_of relay_app ws) ws ≡ p → command_of_rows (subcommand_of relay_app ws) ws ≡ command_in ws
    go (Some c) e p f = (stated-holds ws c e).found
    go None e None f = f ∙ sym e
    go None e (Some c) f = (let both_ways : ◌≡◌ {A = Option Command} None (Some c) = sym e ∙ rows-stated (subcommand_of relay_app ws) ws c f in cc)

-- the parser is one of which these definitions speak
pub is_exact : is_simple relay_app ≡ true
unfolding clap_on_literals
is_exact = refl

-- ---- the steps of the reading

pub any_map : {A : Type 0} (test : Text → Bool) (text : A → Text) (words : List A) → list_any (λ w. test (text w)) words ≡ list_any test (map text words)
any_map test text [] = refl
any_map test text (w ∷ words) = ap (λ b. test (text w) || b) (any_map test text words)

pair-of : {A : Type 0} (name_in : A → Text) (rows_in : A → Text × List Row) (o : Option A) (name : Text) (rows : List Row)
    → Some name ≡ option_map name_in o → Some rows ≡ option_map (λ p. p.1) (option_map rows_in o) → ((a : A) → (rows_in a).0 ≡ name_in a) → option_map rows_in o ≡ Some (name, rows)
pair-of name_in rows_in None name rows e f h = cc
pair-of name_in rows_in (Some a) name rows e f h =
    let n : name ≡ name_in a = cc in
    let r : rows ≡ (rows_in a).1 = cc in
    ap₂ (λ x y. Some (x, y)) (h a ∙ sym n) (sym r)

-- the subcommand of matches, by its name and its rows
pub rows-are : (m : ArgMatches) (name : Text) (rows : List Row) → Some name ≡ subcommand_name_of m → Some rows ≡ option_map (λ p. p.1) (subcommand_rows_of m)
    → subcommand_rows_of m ≡ Some (name, rows)
rows-are m name rows e f = pair-of _ _ (out-ArgMatches m).subcommand name rows e f (λ a. refl)
