-- Where a leaf of a generation begins, by what signatures answer.
use Rattle.std.proofs.Common.{◌≡◌, ◌⊎◌, ℕ, suc, ◌+◌, ◌≤◌, ◌<◌, ◌^◌, ℤ, List, [], ◌∷◌, length, get_or, slice_get, inl, inr, refl, sym, ap, ◌∙◌, Option, Some, None, Err, Bool, true, false, arith}
use Rattle.std.specs.Prelude.{nat_lt, if◌then◌else◌}
use Rattle.std.proofs.lemmas.Bool.Decides.{nat_tests}
use Rattle.std.proofs.lemmas.Option.{slice_get_cases, slice_get_past}
use Rattle.pli_typing.specs.Signatures.{Leaf, capped}
use Rattle.pli_meaning.specs.Contents.{Shape, last_refers, leaves_refer, leaves_with}
use Rattle.pli_answering.specs.Answering.{Replies}
use Rattle.pli_answering.specs.declared.reply.Refusal.{Refusal}
use Rattle.pli_answering.specs.declared.reply.Refusal.TheVariants as R
use Rattle.pli_storage.specs.Descriptions.{IsDescribed}
use Rattle.pli_serving.specs.Answers.{Done, Bad}
use Rattle.pli_serving.specs.Finding.{Call, Found}
use Rattle.pli_serving.specs.Names.{described, leaf_words, resolved}
use Rattle.pli_serving.specs.Outcomes.{or_bad}
use Rattle.pli_serving.specs.Values.{leaf_place}
use Rattle.pli_signatures.specs.Whole.{leaf_in, place_in}

last_as_many : (z : ℤ) (ls : List Leaf) → length (last_refers z ls) ≡ length ls
last_as_many z [] = refl
last_as_many z (l ∷ []) = refl
last_as_many z (l ∷ m ∷ ls) = ap suc (last_as_many z (m ∷ ls))

refer_as_many : (z : ℤ) (refer : Option ℕ) (ls : List Leaf) → length (leaves_refer z refer ls) ≡ length ls
refer_as_many z None ls = refl
refer_as_many z (Some member) ls = last_as_many z ls

pub resolved_without : (c : Call) (f : Found) (leaf buffer : ℕ) (o : Option Shape) → None ≡ leaf_in o leaf f.extent → or_bad o (λ s. resolved c leaf buffer f (leaves_with f.extent s)) ≡ Bad
resolved_without c f leaf buffer None e = refl
resolved_without c f leaf buffer (Some s) e = ap (λ l. or_bad l (λ l. or_bad (described c.layout buffer (leaf_words l) c.memory) (λ m. Done c.services m (f.at + leaf_place (leaves_with f.extent s) leaf) 0))) (sym e)

pub resolved_unplaced : (c : Call) (f : Found) (leaf buffer : ℕ) (o : Option Shape) → None ≡ place_in o leaf f.extent → or_bad o (λ s. resolved c leaf buffer f (leaves_with f.extent s)) ≡ Bad
resolved_unplaced c f leaf buffer None e = refl
resolved_unplaced c f leaf buffer (Some s) e = by_test (nat_lt leaf (length s.signature.leaves)) refl e
  where
    by_test : (t : Bool) → nat_lt leaf (length s.signature.leaves) ≡ t → None ≡ (if t then Some (capped (leaf_place (leaves_with f.extent s) leaf)) else None) → or_bad (Some s) (λ s. resolved c leaf buffer f (leaves_with f.extent s)) ≡ Bad
    by_test true t e = cc
    by_test false t e =
        let as_many = refer_as_many f.extent s.refer s.signature.leaves in
        let behind : length (leaves_with f.extent s) ≤ leaf = grind (arith, nat_tests, as_many) in
        resolved_without c f leaf buffer (Some s) (sym (slice_get_past (leaves_with f.extent s) leaf behind))

place_is : (n place : ℕ) → place ≡ capped n → place < 2 ^ 32 → n ≡ place
place_is n place e h = omega (arith, e, h)

pub resolved_so : (c : Call) (f : Found) (leaf buffer place : ℕ) (l : Leaf) (m : List ℕ) (o : Option Shape) → Some place ≡ place_in o leaf f.extent → Some l ≡ leaf_in o leaf f.extent → place < 2 ^ 32 → described c.layout buffer (leaf_words l) c.memory ≡ Some m → or_bad o (λ s. resolved c leaf buffer f (leaves_with f.extent s)) ≡ Done c.services m (f.at + place) 0
resolved_so c f leaf buffer place l m None p e h d = cc
resolved_so c f leaf buffer place l m (Some s) p e h d = by_test (nat_lt leaf (length s.signature.leaves)) p
  where
    by_test : (t : Bool) → Some place ≡ (if t then Some (capped (leaf_place (leaves_with f.extent s) leaf)) else None) → or_bad (Some s) (λ s. resolved c leaf buffer f (leaves_with f.extent s)) ≡ Done c.services m (f.at + place) 0
    by_test true p =
        let capped_is : place ≡ capped (leaf_place (leaves_with f.extent s) leaf) = cc in
        ap (λ l. or_bad l (λ l. or_bad (described c.layout buffer (leaf_words l) c.memory) (λ m. Done c.services m (f.at + leaf_place (leaves_with f.extent s) leaf) 0))) (sym e)
        ∙ ap (λ d. or_bad d (λ m. Done c.services m (f.at + leaf_place (leaves_with f.extent s) leaf) 0)) d
        ∙ ap (λ n. Done c.services m (f.at + n) 0) (place_is _ place capped_is h)
    by_test false p = cc

-- without a buffer nothing is asked of the leaf but that it is there, as its place tells
pub resolved_bare : (c : Call) (f : Found) (leaf place : ℕ) (o : Option Shape) → Some place ≡ place_in o leaf f.extent → place < 2 ^ 32 → or_bad o (λ s. resolved c leaf 0 f (leaves_with f.extent s)) ≡ Done c.services c.memory (f.at + place) 0
resolved_bare c f leaf place None p h = cc
resolved_bare c f leaf place (Some s) p h = by_test (nat_lt leaf (length s.signature.leaves)) refl p
  where
    by_test : (t : Bool) → nat_lt leaf (length s.signature.leaves) ≡ t → Some place ≡ (if t then Some (capped (leaf_place (leaves_with f.extent s) leaf)) else None) → or_bad (Some s) (λ s. resolved c leaf 0 f (leaves_with f.extent s)) ≡ Done c.services c.memory (f.at + place) 0
    by_test false t e = cc
    by_test true t e = by_place (slice_get_cases (leaves_with f.extent s) leaf).1
      where
        by_place : ((l : Leaf) × (leaf < length (leaves_with f.extent s)) × (slice_get (leaves_with f.extent s) leaf ≡ Some l) × (get_or (leaves_with f.extent s) leaf l ≡ l)) ⊎ ((length (leaves_with f.extent s) ≤ leaf) × (slice_get (leaves_with f.extent s) leaf ≡ None)) → or_bad (Some s) (λ s. resolved c leaf 0 f (leaves_with f.extent s)) ≡ Done c.services c.memory (f.at + place) 0
        by_place (inl (l, _, found, _)) = resolved_so c f leaf 0 place l c.memory (Some s) p (sym found) h refl
        by_place (inr (past, _)) =
            let as_many = refer_as_many f.extent s.refer s.signature.leaves in
            absurd (grind (arith, nat_tests, as_many, past, t))

pub resolved_undescribed : (c : Call) (f : Found) (leaf buffer : ℕ) (l : Leaf) (o : Option Shape) → Some l ≡ leaf_in o leaf f.extent → described c.layout buffer (leaf_words l) c.memory ≡ None → or_bad o (λ s. resolved c leaf buffer f (leaves_with f.extent s)) ≡ Bad
resolved_undescribed c f leaf buffer l None e d = refl
resolved_undescribed c f leaf buffer l (Some s) e d =
    ap (λ l. or_bad l (λ l. or_bad (described c.layout buffer (leaf_words l) c.memory) (λ m. Done c.services m (f.at + leaf_place (leaves_with f.extent s) leaf) 0))) (sym e)
    ∙ ap (λ d. or_bad d (λ m. Done c.services m (f.at + leaf_place (leaves_with f.extent s) leaf) 0)) d

pub refused : (c : Call) (f : Found) (leaf buffer : ℕ) (l : Leaf) (o : Option Shape) (refusal : Refusal) (m : List ℕ) → Some l ≡ leaf_in o leaf f.extent → IsDescribed (described c.layout buffer (leaf_words l) c.memory) c.memory (Err refusal) m → Replies (or_bad o (λ s. resolved c leaf buffer f (leaves_with f.extent s))) c.services c.memory (Err refusal) c.services m
refused c f leaf buffer l o R.Bad m e d = (resolved_undescribed c f leaf buffer l o e d.0, refl, d.1)
refused c f leaf buffer l o R.Memory m e d = (refl, d)
