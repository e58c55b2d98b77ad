-- The lists of a phase, with one event more.
use Rattle.std.proofs.Common.{◌≡◌, ℕ, zero, suc, ◌+◌, ◌≤◌, ◌<◌, ◌==◌, ◌&&◌, Bool, true, false, cond, List, [], ◌∷◌, ◌++◌, length, map, get_or, replicate, refl, sym, ap, ◌∙◌, arith, append-nil}
use Rattle.std.proofs.lemmas.Bool.Decides.{nat_tests}
use Rattle.std.proofs.lemmas.List.Elements.{filter-append}
use Rattle.std.proofs.Math.ListN.{set}
use Rattle.std.specs.List.{AllByRecursion, filter, range_with_len}
use Rattle.relay_base.specs.declared.words.Stamp.{Stamp}
use Rattle.plant_core.specs.declared.entry.ControlEvent.{ControlEvent}
use Rattle.capture_form.specs.Events.{Stamped, is_at, phase_lists, AreOfLinks, AreOfPhases}

abbrev StampedEvent : Type 0
StampedEvent = Stamp × ControlEvent

same-number : (n : ℕ) → (n == n) ≡ true
same-number n = grind (arith, nat_tests)

other-number : (n m : ℕ) → n < m → (n == m) ≡ false
other-number n m h = grind (arith, nat_tests)

later-number : (n m : ℕ) → m < n → (n == m) ≡ false
later-number n m h = grind (arith, nat_tests)

and-false : (t : Bool) → (t && false) ≡ false
and-false true = refl
and-false false = refl

at-itself : (e : StampedEvent) → is_at e.0.phase e.0.link e ≡ true
at-itself e = rw (same-number e.0.phase, same-number e.0.link) refl

-- ---- the list of one link

kept : (phase link : ℕ) (events : Stamped) (e : StampedEvent) (t : Bool) → is_at phase link e ≡ t → filter (is_at phase link) (events ++ e ∷ []) ≡ filter (is_at phase link) events ++ cond t (e ∷ []) []
kept phase link events e t h = filter-append (is_at phase link) events (e ∷ []) ∙ ap (λ b. filter (is_at phase link) events ++ cond b (e ∷ []) []) h

-- an event that stands elsewhere changes nothing
apart : (phase link : ℕ) (events : Stamped) (e : StampedEvent) → is_at phase link e ≡ false → filter (is_at phase link) (events ++ e ∷ []) ≡ filter (is_at phase link) events
apart phase link events e h = kept phase link events e false h ∙ append-nil (filter (is_at phase link) events)

-- ---- the lists of links

-- the lists of so many links, from this one on
abbrev lists : ℕ → Stamped → ℕ → ℕ → List Stamped
lists phase events link n = map (λ k. filter (is_at phase k) events) (range_with_len link n)

other-phase : (phase link n : ℕ) (events : Stamped) (e : StampedEvent) → (e.0.phase == phase) ≡ false → lists phase (events ++ e ∷ []) link n ≡ lists phase events link n
other-phase phase link zero events e h = refl
other-phase phase link (suc n) events e h =
    let elsewhere : is_at phase link e ≡ false = ap (λ b. b && (e.0.link == link)) h in
    ap (λ l. l ∷ lists phase (events ++ e ∷ []) (link + 1) n) (apart phase link events e elsewhere)
    ∙ ap (λ ls. filter (is_at phase link) events ∷ ls) (other-phase phase (link + 1) n events e h)

-- the links behind that of the event
links-behind : (phase link n : ℕ) (events : Stamped) (e : StampedEvent) → e.0.link < link → lists phase (events ++ e ∷ []) link n ≡ lists phase events link n
links-behind phase link zero events e h = refl
links-behind phase link (suc n) events e h =
    let elsewhere : is_at phase link e ≡ false = ap (λ b. (e.0.phase == phase) && b) (other-number e.0.link link h) ∙ and-false (e.0.phase == phase) in
    ap (λ l. l ∷ lists phase (events ++ e ∷ []) (link + 1) n) (apart phase link events e elsewhere)
    ∙ ap (λ ls. filter (is_at phase link) events ∷ ls) (links-behind phase (link + 1) n events e (omega (arith, h)))

-- the list of the event's link has it at its end
pub lists-push : (phase link n k : ℕ) (events : Stamped) (e : StampedEvent) → e.0.phase ≡ phase → e.0.link ≡ link + k
    → set (lists phase events link n) k (get_or (lists phase events link n) k [] ++ e ∷ []) ≡ lists phase (events ++ e ∷ []) link n
lists-push phase link zero k events e p l = refl
lists-push phase link (suc n) zero events e p l =
    let place : e.0.link ≡ link = omega (arith, l) in
    let here : is_at phase link e ≡ true = ap (λ q. is_at q link e) (sym p) ∙ ap (λ q. is_at e.0.phase q e) (sym place) ∙ at-itself e in
    ap (λ f. f ∷ lists phase events (link + 1) n) (sym (kept phase link events e true here))
    ∙ ap (λ ls. filter (is_at phase link) (events ++ e ∷ []) ∷ ls) (sym (links-behind phase (link + 1) n events e (omega (arith, place))))
lists-push phase link (suc n) (suc k) events e p l =
    let elsewhere : is_at phase link e ≡ false = ap (λ b. (e.0.phase == phase) && b) (later-number e.0.link link (omega (arith, l))) ∙ and-false (e.0.phase == phase) in
    ap (λ f. f ∷ set (lists phase events (link + 1) n) k (get_or (lists phase events (link + 1) n) k [] ++ e ∷ [])) (sym (apart phase link events e elsewhere))
    ∙ ap (λ ls. filter (is_at phase link) (events ++ e ∷ []) ∷ ls) (lists-push phase (link + 1) n k events e p (omega (arith, l)))

-- ---- the phases

-- no event is of a phase behind this one
abbrev pub AreUpTo : ℕ → Stamped → Type 0
AreUpTo phase events = AllByRecursion (λ e. e.0.phase ≤ phase) events

pub up-to-push : (phase : ℕ) (events : Stamped) (e : StampedEvent) → AreUpTo phase events → e.0.phase ≤ phase → AreUpTo phase (events ++ e ∷ [])
up-to-push phase [] e h p = (p, tt)
up-to-push phase (f ∷ fs) e h p = (h.0, up-to-push phase fs e h.1 p)

pub up-to-next : (phase : ℕ) (events : Stamped) → AreUpTo phase events → AreUpTo (phase + 1) events
up-to-next phase [] h = tt
up-to-next phase (f ∷ fs) h = (omega (arith, h.0), up-to-next phase fs h.1)

none-yet : (phase next link : ℕ) (events : Stamped) → phase < next → AreUpTo phase events → filter (is_at next link) events ≡ []
none-yet phase next link [] less h = refl
none-yet phase next link (e ∷ es) less h =
    let elsewhere : is_at next link e ≡ false = ap (λ b. b && (e.0.link == link)) (other-number e.0.phase next (omega (arith, less, h.0))) in
    ap (λ b. cond b (e ∷ filter (is_at next link) es) (filter (is_at next link) es)) elsewhere ∙ none-yet phase next link es less h.1

-- the next phase has no event yet
pub lists-empty : (phase next link n : ℕ) (events : Stamped) → phase < next → AreUpTo phase events → replicate n [] ≡ lists next events link n
lists-empty phase next link zero events less h = refl
lists-empty phase next link (suc n) events less h =
    ap (λ l. l ∷ replicate n []) (sym (none-yet phase next link events less h))
    ∙ ap (λ ls. filter (is_at next link) events ∷ ls) (lists-empty phase next (link + 1) n events less h)

-- the phases before that of the event
pub phases-before : (links phase n : ℕ) (events : Stamped) (e : StampedEvent) → phase + n ≤ e.0.phase
    → map (phase_lists links events) (range_with_len phase n) ≡ map (phase_lists links (events ++ e ∷ [])) (range_with_len phase n)
phases-before links phase zero events e h = refl
phases-before links phase (suc n) events e h =
    ap (λ ls. ls ∷ map (phase_lists links events) (range_with_len (phase + 1) n)) (sym (other-phase phase 0 (links + 1) events e (later-number e.0.phase phase (omega (arith, h)))))
    ∙ ap (λ more. phase_lists links (events ++ e ∷ []) phase ∷ more) (phases-before links (phase + 1) n events e (omega (arith, h)))

-- ---- stamps

pub number-is : (n m : ℕ) → (n == m) ≡ true → n ≡ m
number-is n m h = grind (arith, nat_tests)

pub both-left : (s t : Bool) → (s && t) ≡ true → s ≡ true
both-left true t h = refl
both-left false t h = h

pub both-right : (s t : Bool) → (s && t) ≡ true → t ≡ true
both-right true t h = h
both-right false t h = cc

found : (phase link : ℕ) (events : Stamped) (e : StampedEvent) (t : Bool) → is_at phase link e ≡ t → AllByRecursion (λ f. (f.0.phase ≡ phase) × (f.0.link ≡ link)) events
    → AllByRecursion (λ f. (f.0.phase ≡ phase) × (f.0.link ≡ link)) (cond t (e ∷ events) events)
found phase link events e true at h =
    ((number-is e.0.phase phase (both-left (e.0.phase == phase) (e.0.link == link) at), number-is e.0.link link (both-right (e.0.phase == phase) (e.0.link == link) at)), h)
found phase link events e false at h = h

link-stamped : (phase link : ℕ) (events : Stamped) → AllByRecursion (λ e. (e.0.phase ≡ phase) × (e.0.link ≡ link)) (filter (is_at phase link) events)
link-stamped phase link [] = tt
link-stamped phase link (e ∷ es) = found phase link (filter (is_at phase link) es) e (is_at phase link e) refl (link-stamped phase link es)

links-stamped : (phase link n : ℕ) (events : Stamped) → AreOfLinks phase link (lists phase events link n)
links-stamped phase link zero events = tt
links-stamped phase link (suc n) events = (link-stamped phase link events, links-stamped phase (link + 1) n events)

length-lists : (phase link n : ℕ) (events : Stamped) → length (lists phase events link n) ≡ n
length-lists phase link zero events = refl
length-lists phase link (suc n) events = ap suc (length-lists phase (link + 1) n events)

-- phases with the events of each, by their stamps
pub phases-stamped : (links phase n : ℕ) (events : Stamped) → AreOfPhases links phase (map (phase_lists links events) (range_with_len phase n))
phases-stamped links phase zero events = tt
phases-stamped links phase (suc n) events =
    (length-lists phase 0 (links + 1) events, links-stamped phase 0 (links + 1) events, phases-stamped links (phase + 1) n events)
