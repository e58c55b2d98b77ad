-- When values may be written, how many octets they have, and how these follow each other.
use Rattle.std.proofs.Common.{◌≡◌, ℕ, ◌+◌, ◌*◌, ◌≤◌, ◌&&◌, ◌++◌, Bool, true, false, List, [], ◌∷◌, length, map, refl, ap, sym, ◌∙◌, arith, append_assoc, length-append}
use Rattle.std.specs.Prelude.{Option, None, Some, IsTrue}
use Rattle.std.specs.List.{concat, list_all}
use Rattle.q713_shape.specs.Format.{Format, Values, pointer_width, pointer_count, option_count}
use Rattle.q713_shape.specs.Writing.{number_octets, variables, optional_part, skips, option_skip, pointers, fits_pointer, have_lengths, are_options, are_in_range, octets_of}
use Rattle.q713_shape.proofs.Counting.{and-both}
use Rattle.q713_shape.proofs.Pointing.{length-variables}

pub in_range-lengths : (format : Format) (values : Values) → IsTrue (are_in_range format values) → IsTrue (have_lengths format.vars values.vars)
unfolding are_in_range
in_range-lengths format values h =
    let both = and-both (have_lengths format.vars values.vars && are_options format.options values.options) (list_all (fits_pointer format.wide) (pointers format values)) h in
    (and-both (have_lengths format.vars values.vars) (are_options format.options values.options) both.0).0

pub in_range-options : (format : Format) (values : Values) → IsTrue (are_in_range format values) → IsTrue (are_options format.options values.options)
unfolding are_in_range
in_range-options format values h =
    let both = and-both (have_lengths format.vars values.vars && are_options format.options values.options) (list_all (fits_pointer format.wide) (pointers format values)) h in
    (and-both (have_lengths format.vars values.vars) (are_options format.options values.options) both.0).1

pub in_range-pointers : (format : Format) (values : Values) → IsTrue (are_in_range format values) → IsTrue (list_all (fits_pointer format.wide) (pointers format values))
unfolding are_in_range
in_range-pointers format values h = (and-both (have_lengths format.vars values.vars && are_options format.options values.options) (list_all (fits_pointer format.wide) (pointers format values)) h).1

pub are_in_range-length : (format : Format) (values : Values) → have_lengths format.vars values.vars ≡ false → are_in_range format values ≡ false
unfolding are_in_range
are_in_range-length format values e = rw e refl

pub are_in_range-option : (format : Format) (values : Values) → have_lengths format.vars values.vars ≡ true → are_options format.options values.options ≡ false → are_in_range format values ≡ false
unfolding are_in_range
are_in_range-option format values e f = rw (e, f) refl

and_by : (t a b c : Bool) → a ≡ (b && c) → (t && a) ≡ ((t && b) && c)
and_by true a b c e = e
and_by false a b c e = refl

pub list_all-append : (test : ℕ → Bool) (xs ys : List ℕ) → list_all test (xs ++ ys) ≡ (list_all test xs && list_all test ys)
list_all-append test [] ys = refl
list_all-append test (x ∷ xs) ys = and_by (test x) (list_all test (xs ++ ys)) (list_all test xs) (list_all test ys) (list_all-append test xs ys)

pub are_in_range-pointers : (format : Format) (values : Values) (before : ℕ) (p q : Bool) → have_lengths format.vars values.vars ≡ true → are_options format.options values.options ≡ true → before ≡ length (concat (variables format.vars values.vars)) → p ≡ list_all (fits_pointer format.wide) (skips (pointer_width format.wide) (option_count format.options) 0 (variables format.vars values.vars)) → q ≡ list_all (fits_pointer format.wide) (option_skip format.options before (optional_part format.options values.options)) → are_in_range format values ≡ (p && q)
unfolding are_in_range
are_in_range-pointers format values before p q e f b h k =
    rw (e, f, h, k, b) (list_all-append (fits_pointer format.wide) (skips (pointer_width format.wide) (option_count format.options) 0 (variables format.vars values.vars)) (option_skip format.options (length (concat (variables format.vars values.vars))) (optional_part format.options values.options)))

-- the octets of the pointers
pub length-number_octets : (wide : Bool) (n : ℕ) → length (number_octets wide n) ≡ pointer_width wide
length-number_octets true n = refl
length-number_octets false n = refl

pub concat-map-append : (f : ℕ → List ℕ) (xs ys : List ℕ) → concat (map f (xs ++ ys)) ≡ concat (map f xs) ++ concat (map f ys)
concat-map-append f [] ys = refl
concat-map-append f (x ∷ xs) ys = ap (λ r. f x ++ r) (concat-map-append f xs ys) ∙ sym (append_assoc (f x) (concat (map f xs)) (concat (map f ys)))

pub length-pointer_octets : (wide : Bool) (xs : List ℕ) → length (concat (map (number_octets wide) xs)) ≡ pointer_width wide * length xs
length-pointer_octets true [] = refl
length-pointer_octets false [] = refl
length-pointer_octets true (x ∷ xs) = let e = length-pointer_octets true xs in omega (arith, e)
length-pointer_octets false (x ∷ xs) = let e = length-pointer_octets false xs in omega (arith, e)

pub length-skips : (width behind before : ℕ) (parts : List (List ℕ)) → length (skips width behind before parts) ≡ length parts
length-skips width behind before [] = refl
length-skips width behind before (part ∷ parts) = let e = length-skips width behind (before + length part) parts in omega (arith, e)

pub length-option_skip : (names : Option (List ℕ)) (before : ℕ) (part : List ℕ) → length (option_skip names before part) ≡ option_count names
length-option_skip None before part = refl
length-option_skip (Some names) before part = refl

pub length-pointers : (format : Format) (values : Values) → length format.vars ≤ length values.vars → length (pointers format values) ≡ pointer_count format
length-pointers format values h =
    let parts : List (List ℕ) = variables format.vars values.vars in
    let part : List ℕ = optional_part format.options values.options in
    length-append (skips (pointer_width format.wide) (option_count format.options) 0 parts) (option_skip format.options (length (concat parts)) part)
    ∙ omega (arith, length-skips (pointer_width format.wide) (option_count format.options) 0 parts, length-variables format.vars values.vars h, length-option_skip format.options (length (concat parts)) part)

pub length-octets_of : (format : Format) (values : Values) → length format.vars ≤ length values.vars → length (octets_of format values) ≡ 1 + length values.fixed + pointer_width format.wide * pointer_count format + length (concat (variables format.vars values.vars)) + length (optional_part format.options values.options)
unfolding octets_of
length-octets_of format values h =
    let ps : List ℕ = concat (map (number_octets format.wide) (pointers format values)) in
    let vs : List ℕ = concat (variables format.vars values.vars) in
    let os : List ℕ = optional_part format.options values.options in
    let n : length ps ≡ pointer_width format.wide * pointer_count format = length-pointer_octets format.wide (pointers format values) ∙ ap (λ k. pointer_width format.wide * k) (length-pointers format values h) in
    omega (arith, length-append (format.kind ∷ values.fixed ++ ps ++ vs) os, length-append (format.kind ∷ values.fixed ++ ps) vs, length-append (format.kind ∷ values.fixed) ps, n)

pub octets_of-parts : (format : Format) (values : Values) (before : ℕ) → before ≡ length (concat (variables format.vars values.vars)) → format.kind ∷ values.fixed ++ concat (map (number_octets format.wide) (skips (pointer_width format.wide) (option_count format.options) 0 (variables format.vars values.vars))) ++ concat (map (number_octets format.wide) (option_skip format.options before (optional_part format.options values.options))) ++ concat (variables format.vars values.vars) ++ optional_part format.options values.options ≡ octets_of format values
unfolding octets_of
octets_of-parts format values before b =
    let head : List ℕ = format.kind ∷ values.fixed in
    let ps : List ℕ = skips (pointer_width format.wide) (option_count format.options) 0 (variables format.vars values.vars) in
    let rest : List ℕ → List ℕ = λ x. x ++ concat (variables format.vars values.vars) ++ optional_part format.options values.options in
    ap (λ n. rest (head ++ concat (map (number_octets format.wide) ps) ++ concat (map (number_octets format.wide) (option_skip format.options n (optional_part format.options values.options))))) b
    ∙ ap rest (append_assoc head (concat (map (number_octets format.wide) ps)) (concat (map (number_octets format.wide) (option_skip format.options (length (concat (variables format.vars values.vars))) (optional_part format.options values.options)))) ∙ ap (λ x. head ++ x) (sym (concat-map-append (number_octets format.wide) ps (option_skip format.options (length (concat (variables format.vars values.vars))) (optional_part format.options values.options)))))

pub are_in_range-pointer : (format : Format) (values : Values) (p : Bool) → have_lengths format.vars values.vars ≡ true → are_options format.options values.options ≡ true → p ≡ list_all (fits_pointer format.wide) (skips (pointer_width format.wide) (option_count format.options) 0 (variables format.vars values.vars)) → p ≡ false → p ≡ are_in_range format values
are_in_range-pointer format values p e f h n =
    let before : ℕ = length (concat (variables format.vars values.vars)) in
    let q : Bool = list_all (fits_pointer format.wide) (option_skip format.options before (optional_part format.options values.options)) in
    n ∙ sym (are_in_range-pointers format values before p q e f refl h refl ∙ ap (λ t. t && q) n)

pub octets_of-written : (format : Format) (values : Values) (before count : ℕ) (a b c d e f g : List ℕ) → before ≡ length (concat (variables format.vars values.vars)) → count ≡ option_count format.options → a ≡ [] → b ≡ a ++ format.kind ∷ [] → c ≡ b ++ values.fixed → d ≡ c ++ concat (map (number_octets format.wide) (skips (pointer_width format.wide) count 0 (variables format.vars values.vars))) → e ≡ d ++ concat (map (number_octets format.wide) (option_skip format.options before (optional_part format.options values.options))) → f ≡ e ++ concat (variables format.vars values.vars) → g ≡ f ++ optional_part format.options values.options → g ≡ octets_of format values
octets_of-written format values before count a b c d e f g n m ha hb hc hd he hf hg =
    let head : c ≡ format.kind ∷ values.fixed = hc ∙ ap (λ x. x ++ values.fixed) (hb ∙ ap (λ x. x ++ format.kind ∷ []) ha) in
    let ps : ℕ → List ℕ = λ k. concat (map (number_octets format.wide) (skips (pointer_width format.wide) k 0 (variables format.vars values.vars))) in
    let o : List ℕ = concat (map (number_octets format.wide) (option_skip format.options before (optional_part format.options values.options))) in
    let vs : List ℕ = concat (variables format.vars values.vars) in
    let front : d ≡ format.kind ∷ values.fixed ++ ps (option_count format.options) = hd ∙ ap (λ x. x ++ ps count) head ∙ ap (λ k. format.kind ∷ values.fixed ++ ps k) m in
    hg ∙ ap (λ x. x ++ optional_part format.options values.options) (hf ∙ ap (λ x. x ++ vs) (he ∙ ap (λ x. x ++ o) front)) ∙ octets_of-parts format values before n
