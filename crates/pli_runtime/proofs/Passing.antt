-- Where a number is none of a level's, the level's services are those of the next one; behind the last level there is
-- none.
use Rattle.std.proofs.Common.{◌≡◌, ℕ, ◌==◌, if◌then◌else◌, ◌∙◌}
use Rattle.std.proofs.lemmas.Bool.{ne_eqb}
use Rattle.pli_serving.specs.Answers.{Answer, Bad}
use Rattle.pli_serving.specs.Finding.{Call}
use Rattle.pli_serving.specs.Serving.{served, blocks_served, found_served, areas_served, controlled_served, texts_served, conditions_served, edits_served, aggregates_served}

abbrev IsNot : (n k : ℕ) → Type 0
IsNot n k = n ≡ k → ⊥

passed : (n k : ℕ) (here next : Answer) → IsNot n k → (if n == k then here else next) ≡ next
passed n k here next h = rw (ne_eqb n k h)

served_passed :
    (n : ℕ) (c : Call) (x : ℕ → ℕ) → IsNot n 1 → IsNot n 2 → IsNot n 3 →
    served n c x ≡ blocks_served n c x
served_passed n c x h1 h2 h3 =
    passed n 1 _ _ h1 ∙ passed n 2 _ _ h2 ∙ passed n 3 _ _ h3

blocks_passed :
    (n : ℕ) (c : Call) (x : ℕ → ℕ) → IsNot n 4 → IsNot n 5 → IsNot n 6 → IsNot n 7 → IsNot n 8 → IsNot n 9 →
    blocks_served n c x ≡ areas_served n c x
blocks_passed n c x h4 h5 h6 h7 h8 h9 =
    passed n 4 _ _ h4 ∙ passed n 5 _ _ h5 ∙ passed n 6 _ _ h6 ∙ passed n 7 _ _ h7 ∙ passed n 8 _ _ h8 ∙ passed n 9 _ _ h9

areas_passed :
    (n : ℕ) (c : Call) (x : ℕ → ℕ) → IsNot n 10 → IsNot n 11 → IsNot n 12 → IsNot n 13 → IsNot n 14 → IsNot n 15 →
    areas_served n c x ≡ controlled_served n c x
areas_passed n c x h10 h11 h12 h13 h14 h15 =
    passed n 10 _ _ h10 ∙ passed n 11 _ _ h11 ∙ passed n 12 _ _ h12 ∙ passed n 13 _ _ h13 ∙ passed n 14 _ _ h14 ∙ passed n 15 _ _ h15

controlled_passed :
    (n : ℕ) (c : Call) (x : ℕ → ℕ) → IsNot n 16 → IsNot n 17 → IsNot n 18 → IsNot n 19 →
    controlled_served n c x ≡ texts_served n c x
controlled_passed n c x h16 h17 h18 h19 =
    passed n 16 _ _ h16 ∙ passed n 17 _ _ h17 ∙ passed n 18 _ _ h18 ∙ passed n 19 _ _ h19

texts_passed :
    (n : ℕ) (c : Call) (x : ℕ → ℕ) → IsNot n 20 → IsNot n 21 → IsNot n 22 → IsNot n 23 → IsNot n 24 → IsNot n 25 → IsNot n 26 → IsNot n 27 →
    texts_served n c x ≡ conditions_served n c x
texts_passed n c x h20 h21 h22 h23 h24 h25 h26 h27 =
    passed n 20 _ _ h20 ∙ passed n 21 _ _ h21 ∙ passed n 22 _ _ h22 ∙ passed n 23 _ _ h23 ∙ passed n 24 _ _ h24 ∙ passed n 25 _ _ h25 ∙ passed n 26 _ _ h26 ∙ passed n 27 _ _ h27

conditions_passed :
    (n : ℕ) (c : Call) (x : ℕ → ℕ) → IsNot n 28 → IsNot n 29 → IsNot n 30 → IsNot n 31 → IsNot n 32 → IsNot n 33 →
    conditions_served n c x ≡ edits_served n c x
conditions_passed n c x h28 h29 h30 h31 h32 h33 =
    passed n 28 _ _ h28 ∙ passed n 29 _ _ h29 ∙ passed n 30 _ _ h30 ∙ passed n 31 _ _ h31 ∙ passed n 32 _ _ h32 ∙ passed n 33 _ _ h33

edits_passed :
    (n : ℕ) (c : Call) (x : ℕ → ℕ) → IsNot n 34 → IsNot n 35 → IsNot n 36 → IsNot n 37 → IsNot n 38 → IsNot n 39 →
    edits_served n c x ≡ aggregates_served n c x
edits_passed n c x h34 h35 h36 h37 h38 h39 =
    passed n 34 _ _ h34 ∙ passed n 35 _ _ h35 ∙ passed n 36 _ _ h36 ∙ passed n 37 _ _ h37 ∙ passed n 38 _ _ h38 ∙ passed n 39 _ _ h39

aggregates_none : (n : ℕ) (c : Call) (x : ℕ → ℕ) → IsNot n 40 → IsNot n 41 → aggregates_served n c x ≡ Bad
aggregates_none n c x h40 h41 = passed n 40 _ _ h40 ∙ passed n 41 _ _ h41

-- there is no service but those up to 41
pub served_none :
    (n : ℕ) (c : Call) (x : ℕ → ℕ) →
    IsNot n 1 → IsNot n 2 → IsNot n 3 → IsNot n 4 → IsNot n 5 → IsNot n 6 → IsNot n 7 → IsNot n 8 → IsNot n 9
    → IsNot n 10 →
    IsNot n 11 → IsNot n 12 → IsNot n 13 → IsNot n 14 → IsNot n 15 → IsNot n 16 → IsNot n 17 → IsNot n 18 → IsNot n 19
    → IsNot n 20 →
    IsNot n 21 → IsNot n 22 → IsNot n 23 → IsNot n 24 → IsNot n 25 → IsNot n 26 → IsNot n 27 → IsNot n 28 → IsNot n 29
    → IsNot n 30 →
    IsNot n 31 → IsNot n 32 → IsNot n 33 → IsNot n 34 → IsNot n 35 → IsNot n 36 → IsNot n 37 → IsNot n 38 → IsNot n 39
    → IsNot n 40 →
    IsNot n 41 →
    served n c x ≡ Bad
served_none n c x h1 h2 h3 h4 h5 h6 h7 h8 h9 h10 h11 h12 h13 h14 h15 h16 h17 h18 h19 h20 h21 h22 h23 h24 h25 h26 h27
    h28 h29 h30 h31 h32 h33 h34 h35 h36 h37 h38 h39 h40 h41 =
    served_passed n c x h1 h2 h3
    ∙ blocks_passed n c x h4 h5 h6 h7 h8 h9
    ∙ areas_passed n c x h10 h11 h12 h13 h14 h15
    ∙ controlled_passed n c x h16 h17 h18 h19
    ∙ texts_passed n c x h20 h21 h22 h23 h24 h25 h26 h27
    ∙ conditions_passed n c x h28 h29 h30 h31 h32 h33
    ∙ edits_passed n c x h34 h35 h36 h37 h38 h39
    ∙ aggregates_none n c x h40 h41

-- 8 has two modes
pub found_none : (c : Call) (x : ℕ → ℕ) (mode : ℕ) → IsNot mode 0 → IsNot mode 1 → found_served c x mode ≡ Bad
found_none c x mode h0 h1 = passed mode 0 _ _ h0 ∙ passed mode 1 _ _ h1
