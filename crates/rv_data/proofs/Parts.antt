-- Where a part is looked for, and its words.
use Rattle.std.proofs.Common.{◌≡◌, ℕ, suc, ◌+◌, ◌-◌, ◌<◌, ◌≤◌, Bool, true, false, List, [], ◌∷◌, ◌++◌, drop, Option, Some, None, refl, sym, ap, ◌∙◌, append_assoc, add-one, arith}
use Rattle.std.specs.Prelude.{nat_lt, ◌==◌, slice_get, if◌then◌else◌}
use Rattle.std.proofs.lemmas.Bool.Decides.{nat_tests}
use Rattle.rv_meaning.specs.Memory.{bytes_of_words}
use Rattle.pli_typing.specs.TypedTree as Y
use Rattle.pli_meaning.specs.StreamOrder.{Nest, NoNest, NestOf, deeper, nest_of}
use Rattle.pli_coding.specs.StaticForms.{is_part, nest_words, nests_beside, or_else, part_in, part_words, words_if}
use Rattle.rv_data.specs.declared.shape.Node.{Node}
use Rattle.rv_data.specs.declared.shape.Found.{Found}
use Rattle.rv_data.specs.Shapes.{IsNode, behind_first, found_words, inside_first, is_past, next_leaf, node_leaves, within}
use Rattle.rv_data.proofs.Nests.{first_words, part_behind, part_inside}
use Rattle.rv_data.proofs.Told.{deeper_first, deeper_none, first_nest, from_place, past_end}
use Rattle.rv_data.proofs.Waits.{words_joined}

not_past : (limit : Option ℕ) (e k : ℕ) (inner behind : Nest) → is_past limit e ≡ false → within limit (NestOf e k inner behind) ≡ NestOf e k inner (within limit behind)
not_past None e k inner behind h = refl
not_past (Some d) e k inner behind h = deeper_first d e k inner behind (grind (arith, nat_tests))

is_behind : (limit : Option ℕ) (e k : ℕ) (inner behind : Nest) → is_past limit e ≡ true → within limit (NestOf e k inner behind) ≡ NoNest
is_behind None e k inner behind h = absurd (cc h)
is_behind (Some d) e k inner behind h = deeper_none d e k inner behind (grind (arith, nat_tests))

within_none : (limit : Option ℕ) → within limit NoNest ≡ NoNest
within_none None = refl
within_none (Some d) = refl

-- what is looked for from here on, or was found around it
abbrev pub sought : Y.Part → (given dimensions leaf at : ℕ) → Option ℕ → List Y.Member → Option Found → Option (List ℕ)
sought part given dimensions leaf at limit ms found = or_else (part_in part given dimensions leaf (within limit (nest_of (drop at ms)))) (found_words ms given found)

no_found : (o : Option (List ℕ)) → or_else o None ≡ o
no_found None = refl
no_found (Some x) = refl

pub search_begins : (part : Y.Part) (ms : List Y.Member) (given : ℕ) → sought part given 0 0 0 None ms None ≡ part_in part given 0 0 (nest_of ms)
search_begins part ms given = no_found (part_in part given 0 0 (nest_of ms))

pub search_ends : (part : Y.Part) (ms : List Y.Member) (given dimensions leaf at : ℕ) (limit : Option ℕ) (found : Option Found) → slice_get ms at ≡ None
    → sought part given dimensions leaf at limit ms found ≡ found_words ms given found
search_ends part ms given dimensions leaf at limit found h =
    ap (λ l. or_else (part_in part given dimensions leaf (within limit (nest_of l))) (found_words ms given found)) (past_end ms at h)
    ∙ ap (λ n. or_else (part_in part given dimensions leaf n) (found_words ms given found)) (within_none limit)

pub search_passes : (part : Y.Part) (ms : List Y.Member) (given dimensions leaf at : ℕ) (limit : Option ℕ) (found : Option Found) (m : Y.Member)
    → slice_get ms at ≡ Some m → is_past limit m.depth ≡ true → sought part given dimensions leaf at limit ms found ≡ found_words ms given found
search_passes part ms given dimensions leaf at limit found m h p =
    ap (λ n. or_else (part_in part given dimensions leaf (within limit n)) (found_words ms given found)) (first_nest ms at m h)
    ∙ ap (λ n. or_else (part_in part given dimensions leaf n) (found_words ms given found)) (is_behind limit m.depth m.dimensions (inside_first (drop at ms)) (behind_first (drop at ms)) p)

opened : (ms : List Y.Member) (at : ℕ) (limit : Option ℕ) (m : Y.Member) → slice_get ms at ≡ Some m → is_past limit m.depth ≡ false
    → within limit (nest_of (drop at ms)) ≡ NestOf m.depth m.dimensions (inside_first (drop at ms)) (within limit (behind_first (drop at ms)))
opened ms at limit m h p =
    ap (within limit) (first_nest ms at m h) ∙ not_past limit m.depth m.dimensions (inside_first (drop at ms)) (behind_first (drop at ms)) p

pub sibling_next : (part : Y.Part) (ms : List Y.Member) (given dimensions leaf at behind : ℕ) (limit : Option ℕ) (found : Option Found) (m : Y.Member) (node : Node)
    → slice_get ms at ≡ Some m → is_past limit m.depth ≡ false → IsNode ms at node → behind ≡ node.leaves + leaf → behind ≤ part.first
    → sought part given dimensions behind node.behind limit ms found ≡ sought part given dimensions leaf at limit ms found
sibling_next part ms given dimensions leaf at behind limit found m node h p is e l =
    let inner : Nest = inside_first (drop at ms) in
    let count : behind ≡ node_leaves inner + leaf = e ∙ ap (λ n. n + leaf) is.leaves in
    let before : node_leaves inner + leaf ≤ part.first = omega (arith, count, l) in
    ap (λ k. or_else (part_in part given dimensions k (within limit (nest_of (drop node.behind ms)))) (found_words ms given found)) count
    ∙ ap (λ n. or_else (part_in part given dimensions (node_leaves inner + leaf) (within limit n)) (found_words ms given found)) is.behind
    ∙ sym (ap (λ o. or_else o (found_words ms given found)) (part_behind part given dimensions leaf m.depth m.dimensions inner (within limit (behind_first (drop at ms))) before))
    ∙ sym (ap (λ n. or_else (part_in part given dimensions leaf n) (found_words ms given found)) (opened ms at limit m h p))

found_or : (t : Bool) (ms : List Y.Member) (given : ℕ) (here : Found) (found : Option Found)
    → found_words ms given (if t then Some here else found) ≡ or_else (words_if t (part_words (here.dimensions - given) here.leaf (inside_first (drop here.member ms)))) (found_words ms given found)
found_or true ms given here found = refl
found_or false ms given here found = refl

pub member_entered : (part : Y.Part) (ms : List Y.Member) (given dimensions leaf at behind : ℕ) (limit : Option ℕ) (found : Option Found) (m : Y.Member) (node : Node) (here : Found)
    → slice_get ms at ≡ Some m → is_past limit m.depth ≡ false → IsNode ms at node → behind ≡ node.leaves + leaf → part.first < behind
    → here ≡ record { member = at; dimensions = dimensions + m.dimensions; leaf = leaf }
    → sought part given (dimensions + m.dimensions) leaf (at + 1) (Some m.depth) ms (if is_part part here.leaf node.leaves then Some here else found) ≡ sought part given dimensions leaf at limit ms found
member_entered part ms given dimensions leaf at behind limit found m node here h p is e l r =
    let inner : Nest = inside_first (drop at ms) in
    let listed : drop at ms ≡ m ∷ drop (at + 1) ms = from_place ms at m h ∙ ap (λ k. m ∷ drop k ms) (sym (add-one at)) in
    let inside : deeper m.depth (nest_of (drop (at + 1) ms)) ≡ inner = sym (ap inside_first listed) in
    let before : part.first < node_leaves inner + leaf = omega (arith, e, l, is.leaves) in
    let words = part_words ((dimensions + m.dimensions) - given) leaf inner in
    ap (λ n. or_else (part_in part given (dimensions + m.dimensions) leaf n) (found_words ms given (if is_part part here.leaf node.leaves then Some here else found))) inside
    ∙ ap (λ f. or_else (part_in part given (dimensions + m.dimensions) leaf inner) (found_words ms given (if is_part part f.leaf node.leaves then Some f else found))) r
    ∙ ap (λ o. or_else (part_in part given (dimensions + m.dimensions) leaf inner) o) (found_or (is_part part leaf node.leaves) ms given (record { member = at; dimensions = dimensions + m.dimensions; leaf = leaf }) found)
    ∙ ap (λ n. or_else (part_in part given (dimensions + m.dimensions) leaf inner) (or_else (words_if (is_part part leaf n) words) (found_words ms given found))) is.leaves
    ∙ sym (part_inside part given dimensions leaf m.depth m.dimensions inner (within limit (behind_first (drop at ms))) (found_words ms given found) before)
    ∙ sym (ap (λ n. or_else (part_in part given dimensions leaf n) (found_words ms given found)) (opened ms at limit m h p))

-- ---- the words of a part

not_none : (n : ℕ) → (suc n == 0) ≡ false
not_none n = grind (arith, nat_tests)

next_is : (leaf k : ℕ) (n : Nest) → k ≡ nests_beside n → (if k == 0 then suc leaf else leaf) ≡ next_leaf leaf n
next_is leaf k NoNest e = ap (λ j. if j == 0 then suc leaf else leaf) e
next_is leaf k (NestOf d dimensions inside behind) e = ap (λ j. if j == 0 then suc leaf else leaf) e ∙ ap (λ t. if t then suc leaf else leaf) (not_none (nests_beside behind))

lt_true : (a b : ℕ) → a < b → nat_lt a b ≡ true
lt_true a b h = grind (arith, nat_tests)

pub member_put : (done now : List ℕ) (ms : List Y.Member) (depth leaf at next : ℕ) (m : Y.Member) (node : Node)
    → slice_get ms at ≡ Some m → depth < m.depth → IsNode ms at node → now ≡ done ++ bytes_of_words (m.dimensions ∷ node.inside ∷ leaf ∷ [])
    → next ≡ (if node.inside == 0 then suc leaf else leaf)
    → now ++ bytes_of_words (nest_words next (deeper depth (nest_of (drop (at + 1) ms)))) ≡ done ++ bytes_of_words (nest_words leaf (deeper depth (nest_of (drop at ms))))
member_put done now ms depth leaf at next m node h deep is put e =
    let rest : Nest = nest_of (drop (at + 1) ms) in
    let listed : drop at ms ≡ m ∷ drop (at + 1) ms = from_place ms at m h ∙ ap (λ k. m ∷ drop k ms) (sym (add-one at)) in
    let inside : node.inside ≡ nests_beside (deeper m.depth rest) = is.inside ∙ ap (λ l. nests_beside (inside_first l)) listed in
    let leaves : next ≡ next_leaf leaf (deeper m.depth rest) = e ∙ next_is leaf node.inside (deeper m.depth rest) inside in
    let behind : List ℕ = nest_words (next_leaf leaf (deeper m.depth rest)) (deeper depth rest) in
    let all : nest_words leaf (deeper depth (nest_of (drop at ms))) ≡ m.dimensions ∷ nests_beside (deeper m.depth rest) ∷ leaf ∷ behind =
    ap (λ l. nest_words leaf (deeper depth (nest_of l))) listed ∙ first_words depth leaf m rest (lt_true depth m.depth deep) in
    ap (λ k. now ++ bytes_of_words (nest_words k (deeper depth rest))) leaves
    ∙ ap (λ u. u ++ bytes_of_words behind) put
    ∙ append_assoc done (bytes_of_words (m.dimensions ∷ node.inside ∷ leaf ∷ [])) (bytes_of_words behind)
    ∙ ap (λ k. done ++ (bytes_of_words (m.dimensions ∷ k ∷ leaf ∷ []) ++ bytes_of_words behind)) inside
    ∙ ap (λ u. done ++ u) (sym (words_joined (m.dimensions ∷ nests_beside (deeper m.depth rest) ∷ leaf ∷ []) behind))
    ∙ ap (λ ws. done ++ bytes_of_words ws) (sym all)

-- nothing more stands in the structure
pub members_end : (ms : List Y.Member) (depth leaf at : ℕ) → slice_get ms at ≡ None → bytes_of_words (nest_words leaf (deeper depth (nest_of (drop at ms)))) ≡ []
members_end ms depth leaf at h = ap (λ l. bytes_of_words (nest_words leaf (deeper depth (nest_of l)))) (past_end ms at h)

pub members_left : (ms : List Y.Member) (depth leaf at : ℕ) (m : Y.Member) → slice_get ms at ≡ Some m → m.depth ≤ depth → bytes_of_words (nest_words leaf (deeper depth (nest_of (drop at ms)))) ≡ []
members_left ms depth leaf at m h l =
    ap (λ n. bytes_of_words (nest_words leaf n)) (ap (deeper depth) (first_nest ms at m h) ∙ deeper_none depth m.depth m.dimensions (inside_first (drop at ms)) (behind_first (drop at ms)) l)

pub part_put : (old mid new : List ℕ) (ms : List Y.Member) (f : Found) (given : ℕ) (m : Y.Member) (node : Node) → slice_get ms f.member ≡ Some m → IsNode ms f.member node
    → mid ≡ old ++ bytes_of_words ((f.dimensions - given) ∷ node.inside ∷ f.leaf ∷ [])
    → new ≡ mid ++ bytes_of_words (nest_words f.leaf (deeper m.depth (nest_of (drop (suc f.member) ms))))
    → new ≡ old ++ bytes_of_words (part_words (f.dimensions - given) f.leaf (inside_first (drop f.member ms)))
part_put old mid new ms f given m node h is a b =
    let listed : drop f.member ms ≡ m ∷ drop (suc f.member) ms = from_place ms f.member m h in
    let inside : deeper m.depth (nest_of (drop (suc f.member) ms)) ≡ inside_first (drop f.member ms) = sym (ap inside_first listed) in
    let words : List ℕ = nest_words f.leaf (inside_first (drop f.member ms)) in
    b
    ∙ ap (λ n. mid ++ bytes_of_words (nest_words f.leaf n)) inside
    ∙ ap (λ u. u ++ bytes_of_words words) a
    ∙ append_assoc old (bytes_of_words ((f.dimensions - given) ∷ node.inside ∷ f.leaf ∷ [])) (bytes_of_words words)
    ∙ ap (λ u. old ++ u) (sym (words_joined ((f.dimensions - given) ∷ node.inside ∷ f.leaf ∷ []) words))
    ∙ ap (λ k. old ++ bytes_of_words ((f.dimensions - given) ∷ k ∷ f.leaf ∷ words)) is.inside

-- a member that is entered, as the loop has it
pub member_found : (part : Y.Part) (ms : List Y.Member) (given dimensions leaf at behind now next : ℕ) (limit : Option ℕ) (found newly : Option Found) (m : Y.Member) (node : Node)
    → slice_get ms at ≡ Some m → is_past limit m.depth ≡ false → IsNode ms at node → behind ≡ node.leaves + leaf → part.first < behind
    → now ≡ dimensions + m.dimensions → next ≡ at + 1
    → newly ≡ (if is_part part leaf node.leaves then Some (record { member = at; dimensions = now; leaf = leaf }) else found)
    → sought part given now leaf next (Some m.depth) ms newly ≡ sought part given dimensions leaf at limit ms found
member_found part ms given dimensions leaf at behind now next limit found newly m node h p is e l n x w =
    ap (λ f. sought part given now leaf next (Some m.depth) ms f) w
    ∙ ap (λ k. sought part given k leaf next (Some m.depth) ms (if is_part part leaf node.leaves then Some (record { member = at; dimensions = k; leaf = leaf }) else found)) n
    ∙ ap (λ k. sought part given (dimensions + m.dimensions) leaf k (Some m.depth) ms (if is_part part leaf node.leaves then Some (record { member = at; dimensions = dimensions + m.dimensions; leaf = leaf }) else found)) x
    ∙ member_entered part ms given dimensions leaf at behind limit found m node (record { member = at; dimensions = dimensions + m.dimensions; leaf = leaf }) h p is e l refl
