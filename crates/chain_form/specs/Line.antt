-- The step that the words of a line state, or what is wrong with them: first the words as a whole, then the leftmost faulty one.
use Rattle.std.specs.Prelude.{ℕ, ◌==◌, ◌||◌, codes, Bool, true, false, List, [], ◌∷◌, if◌then◌else◌, Option, Some, None, Ok, Err}
use Rattle.std.specs.declared.result.Result.{Result}
use Rattle.relay_base.specs.Giving.{◌>>=◌}
use Rattle.capture_form.specs.Text.{same}
use Rattle.capture_form.specs.Words.{link_of}
use Rattle.capture_form.specs.Requests.{form_of, has_form, request_of}
use Rattle.capture_form.specs.declared.requests.RequestForm.{RequestForm}
use Rattle.capture_form.specs.declared.requests.RequestForm.TheVariants as form
use Rattle.capture_form.specs.declared.fault.LineKind.{LineKind}
use Rattle.capture_form.specs.declared.fault.LineKind.TheVariants.{Words, Number}
use Rattle.chain_step.specs.Steps.{has_neighbour}
use Rattle.chain_step.specs.declared.step.Step.{Step}
use Rattle.chain_step.specs.declared.step.Step.TheVariants.{Ask, Pass, Tick}

-- the node of a number from 1 on, as links have them
abbrev pub node_of : ℕ → List ℕ → Result ℕ LineKind
node_of nodes word = link_of nodes word

-- the first node or the last, which have the users
abbrev pub end_of : ℕ → List ℕ → Result ℕ LineKind
end_of nodes word = do
  node ← node_of nodes word
  if node == 1 || node == nodes then Ok node else Err Number

-- the word of the called address, which a line doesn't have
abbrev pub title_word : List ℕ
title_word = codes "1208001204947121"

-- the form of a request on a connection
abbrev pub on_connection : Option RequestForm → Option RequestForm
on_connection (Some form.Unit) = None
on_connection (Some form.Coord) = None
on_connection (Some form.Grant) = None
on_connection found = found

-- the words of a request as a capture has them: `conn` with its called address
abbrev pub whole : RequestForm → List (List ℕ) → List (List ℕ)
whole form.Conn (tag ∷ class ∷ credit ∷ more) = tag ∷ class ∷ credit ∷ title_word ∷ more
whole _ more = more

-- a request of this form, if there is one
abbrev pub asked_form : ℕ → List ℕ → Option RequestForm → List (List ℕ) → Result Step LineKind
asked_form nodes word None more = Err Words
asked_form nodes word (Some form) more =
    if has_form form (whole form more) then (do
      node ← end_of nodes word
      request ← request_of form (whole form more)
      Ok (Ask node request))
    else Err Words

-- u <node> <request>
abbrev pub ask_form : ℕ → List (List ℕ) → Result Step LineKind
ask_form nodes (node ∷ word ∷ more) = asked_form nodes node (on_connection (form_of word)) more
ask_form nodes _ = Err Words

-- what passes from a node that has a neighbour there
abbrev pub pass_from : ℕ → List ℕ → Bool → Result Step LineKind
pass_from nodes word forward = do
  node ← node_of nodes word
  if has_neighbour nodes forward node then Ok (Pass node forward) else Err Number

-- d <node> f|b
abbrev pub pass_form : ℕ → List (List ℕ) → Result Step LineKind
pass_form nodes (node ∷ way ∷ []) =
    if same way (codes "f") then pass_from nodes node true
    else if same way (codes "b") then pass_from nodes node false
    else Err Words
pass_form nodes _ = Err Words

-- t <node>
abbrev pub tick_form : ℕ → List (List ℕ) → Result Step LineKind
tick_form nodes (word ∷ []) = do
  node ← node_of nodes word
  Ok (Tick node)
tick_form nodes _ = Err Words

-- d or t: what passes from a node, or its tick
abbrev pub unasked_form : ℕ → List ℕ → List (List ℕ) → Result Step LineKind
unasked_form nodes first more =
    if same first (codes "d") then pass_form nodes more
    else if same first (codes "t") then tick_form nodes more
    else Err Words

-- the step of a line
abbrev pub step_of : ℕ → List (List ℕ) → Result Step LineKind
step_of nodes [] = Err Words
step_of nodes (first ∷ more) = if same first (codes "u") then ask_form nodes more else unasked_form nodes first more
