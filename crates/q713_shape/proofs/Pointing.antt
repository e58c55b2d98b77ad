-- Parts and their pointers, one after the other.
use Rattle.std.proofs.Common.{◌≡◌, ℕ, ◌+◌, ◌-◌, ◌*◌, ◌<◌, ◌≤◌, ◌&&◌, ◌++◌, Bool, true, List, [], ◌∷◌, length, get_or, drop, map, refl, ap, sym, ◌∙◌, arith, append_assoc, append-nil, length-drop}
use Rattle.std.specs.Prelude.{Option, None}
use Rattle.std.specs.Option.{option_map}
use Rattle.std.specs.List.{concat, list_all}
use Rattle.std.specs.Borrow.{Bor}
use Rattle.std.proofs.lemmas.List.{drop_all, length-map}
use Rattle.q713_shape.specs.declared.rules.VarRule.{VarRule}
use Rattle.q713_shape.specs.Format.{pointer_width}
use Rattle.q713_shape.specs.Parts.{slices, optional_slices}
use Rattle.q713_shape.specs.Writing.{number_octets, variable, variables, given, all_given, skips, fits_pointer}
use Rattle.q713_shape.proofs.Counting.{variables-drop, all_given-drop}

pub length-variables : (rules : List VarRule) (values : List (List ℕ)) → length rules ≤ length values → length (variables rules values) ≡ length rules
length-variables [] values h = refl
length-variables (rule ∷ rules) [] h = absurd (omega arith)
length-variables (rule ∷ rules) (value ∷ values) h = let k = length-variables rules values (omega arith) in omega (arith, k)

-- the first pointer from the i-th on
pub skips-drop : (rules : List VarRule) (values : List (Bor (List ℕ))) (width behind before n i : ℕ) (d : VarRule) (e : Bor (List ℕ)) → i < length rules → length rules ≤ length values → n ≡ length (variable (get_or rules i d) (get_or values i e).now) → skips width behind before (variables (drop i rules) (drop i (slices values))) ≡ (1 + width * (length rules - 1 - i + behind) + before) ∷ skips width behind (before + n) (variables (drop (i + 1) rules) (drop (i + 1) (slices values)))
skips-drop rules values width behind before n i d e h k m =
    let left : List (List ℕ) = variables (drop (i + 1) rules) (drop (i + 1) (slices values)) in
    let count : length left ≡ length rules - 1 - i =
    length-variables (drop (i + 1) rules) (drop (i + 1) (slices values)) (omega (arith, length-drop (i + 1) rules, length-drop (i + 1) (slices values), length-map values (λ (x : Bor (List ℕ)). x.now)))
    ∙ length-drop (i + 1) rules ∙ omega arith in
    ap (skips width behind before) (variables-drop rules values i d e h (omega arith))
    ∙ ap (λ c. (1 + width * (c + behind) + before) ∷ skips width behind (before + length (variable (get_or rules i d) (get_or values i e).now)) left) count
    ∙ ap (λ x. (1 + width * (length rules - 1 - i + behind) + before) ∷ skips width behind (before + x) left) (sym m)

-- whether the pointers fit, as far as the loop has come
pub fit-next : (rules : List VarRule) (values : List (Bor (List ℕ))) (wide : Bool) (behind before n s i : ℕ) (d : VarRule) (e : Bor (List ℕ)) (t : Bool) → i < length rules → length rules ≤ length values → n ≡ length (variable (get_or rules i d) (get_or values i e).now) → s ≡ 1 + pointer_width wide * (length rules - 1 - i + behind) + before → fits_pointer wide s ≡ t → list_all (fits_pointer wide) (skips (pointer_width wide) behind before (variables (drop i rules) (drop i (slices values)))) ≡ (t && list_all (fits_pointer wide) (skips (pointer_width wide) behind (before + n) (variables (drop (i + 1) rules) (drop (i + 1) (slices values)))))
fit-next rules values wide behind before n s i d e t h k m p f =
    let left : List ℕ = skips (pointer_width wide) behind (before + n) (variables (drop (i + 1) rules) (drop (i + 1) (slices values))) in
    ap (list_all (fits_pointer wide)) (skips-drop rules values (pointer_width wide) behind before n i d e h k m)
    ∙ ap (λ x. fits_pointer wide x && list_all (fits_pointer wide) left) (sym p) ∙ ap (λ x. x && list_all (fits_pointer wide) left) f

pub fit-end : (rules : List VarRule) (values : List (List ℕ)) (wide : Bool) (behind before i : ℕ) → length rules ≤ i → list_all (fits_pointer wide) (skips (pointer_width wide) behind before (variables (drop i rules) values)) ≡ true
fit-end rules values wide behind before i h = rw (drop_all i rules h) refl

-- what is written, and what is left to write
pub pointers-next : (rules : List VarRule) (values : List (Bor (List ℕ))) (wide : Bool) (out : List ℕ) (behind before n s i : ℕ) (d : VarRule) (e : Bor (List ℕ)) → i < length rules → length rules ≤ length values → n ≡ length (variable (get_or rules i d) (get_or values i e).now) → s ≡ 1 + pointer_width wide * (length rules - 1 - i + behind) + before → out ++ concat (map (number_octets wide) (skips (pointer_width wide) behind before (variables (drop i rules) (drop i (slices values))))) ≡ (out ++ number_octets wide s) ++ concat (map (number_octets wide) (skips (pointer_width wide) behind (before + n) (variables (drop (i + 1) rules) (drop (i + 1) (slices values)))))
pointers-next rules values wide out behind before n s i d e h k m p =
    let left : List ℕ = skips (pointer_width wide) behind (before + n) (variables (drop (i + 1) rules) (drop (i + 1) (slices values))) in
    ap (λ xs. out ++ concat (map (number_octets wide) xs)) (skips-drop rules values (pointer_width wide) behind before n i d e h k m)
    ∙ ap (λ x. out ++ concat (map (number_octets wide) (x ∷ left))) (sym p)
    ∙ sym (append_assoc out (number_octets wide s) (concat (map (number_octets wide) left)))

pub pointers-end : (rules : List VarRule) (values : List (List ℕ)) (wide : Bool) (out : List ℕ) (behind before i : ℕ) → length rules ≤ i → out ++ concat (map (number_octets wide) (skips (pointer_width wide) behind before (variables (drop i rules) values))) ≡ out
pointers-end rules values wide out behind before i h = rw (drop_all i rules h) (append-nil out)

pub variables-next : (rules : List VarRule) (values : List (Bor (List ℕ))) (out : List ℕ) (i : ℕ) (d : VarRule) (e : Bor (List ℕ)) → i < length rules → length rules ≤ length values → out ++ concat (variables (drop i rules) (drop i (slices values))) ≡ (out ++ variable (get_or rules i d) (get_or values i e).now) ++ concat (variables (drop (i + 1) rules) (drop (i + 1) (slices values)))
variables-next rules values out i d e h k =
    ap (λ parts. out ++ concat parts) (variables-drop rules values i d e h (omega arith))
    ∙ sym (append_assoc out (variable (get_or rules i d) (get_or values i e).now) (concat (variables (drop (i + 1) rules) (drop (i + 1) (slices values)))))

pub variables-end : (rules : List VarRule) (values : List (List ℕ)) (out : List ℕ) (i : ℕ) → length rules ≤ i → out ++ concat (variables (drop i rules) values) ≡ out
variables-end rules values out i h = rw (drop_all i rules h) (append-nil out)

pub options-next : (names : List ℕ) (values : List (Option (Bor (List ℕ)))) (out : List ℕ) (i : ℕ) → i < length names → length names ≤ length values → out ++ all_given (drop i names) (drop i (optional_slices values)) ≡ (out ++ given (get_or names i 0) (option_map (λ x. x.now) (get_or values i None))) ++ all_given (drop (i + 1) names) (drop (i + 1) (optional_slices values))
options-next names values out i h k =
    ap (λ x. out ++ x) (all_given-drop names values i h (omega arith))
    ∙ sym (append_assoc out (given (get_or names i 0) (option_map (λ x. x.now) (get_or values i None))) (all_given (drop (i + 1) names) (drop (i + 1) (optional_slices values))))

pub options-end : (names : List ℕ) (values : List (Option (List ℕ))) (out : List ℕ) (i : ℕ) → length names ≤ i → out ++ all_given (drop i names) values ≡ out
options-end names values out i h = rw (drop_all i names h) (append-nil out)
