-- Blocks that end together: what service 6 answers, and the chain behind.
use Rattle.std.proofs.Common.{◌≡◌, ℕ, zero, suc, ◌+◌, ◌<◌, ◌≤◌, List, [], ◌∷◌, ◌++◌, length, map}
use Rattle.std.proofs.Common.{Bool, true, false, refl, sym, ap, ◌∙◌, subst, arith}
use Rattle.std.proofs.lemmas.Bool.{leb-true, le-leb, eqb-false}
use Rattle.std.specs.Prelude.{cond, nat_le, filter, drop, ◌==◌}
use Rattle.pli_meaning.specs.StorageState.{State, Activation, Living, without_owner, newest_ended, without_newest}
use Rattle.pli_meaning.specs.World.{World}
use Rattle.pli_meaning.specs.InputLines.{Input}
use Rattle.pli_serving.specs.Answers.{Answer, Done}
use Rattle.pli_serving.specs.Blocks as B
use Rattle.pli_serving.specs.Outcomes.{or_bad}
use Rattle.pli_serving.specs.ServiceState as S
use Rattle.storage_relation.specs.Served.{served_living}
use Rattle.storage_relation.specs.Stored.{Places, AreLow}
use Rattle.storage_relation.proofs.FoundValues.{served_left}
use Rattle.storage_relation.proofs.Holders.{eqb-refl, eqb-other}
use Rattle.activation_relation.specs.Layers.{Layer, Point, activation_of, services_of}
use Rattle.activation_relation.specs.Chains.{UnitPlaces, AreActive}
use Rattle.activation_relation.specs.Changes.{Keeps, StandsOver, unwound, ended_times}
use Rattle.activation_relation.specs.ServiceLaws.{at_point, FramesFall}
use Rattle.activation_relation.proofs.Blocks.{same_length, kept_left, left_below}

-- ---- which layer a frame is

low_frame :
    (above count : ℕ) (φs : List Layer) (φ : Layer) (rest : List Layer) → FramesFall above φs →
    drop count φs ≡ φ ∷ rest → φ.at < above
low_frame above zero [] φ rest fall e = absurd (cc e)
low_frame above (suc n) [] φ rest fall e = absurd (cc e)
low_frame above zero (ψ ∷ ψs) φ rest fall e =
    let same : ψ ≡ φ = cc e in
    subst (λ (x : Layer). x.at < above) same fall.0
low_frame above (suc n) (ψ ∷ ψs) φ rest fall e =
    let low = low_frame ψ.at n ψs φ rest fall.1 e in
    let high = fall.0 in
    omega (arith, low, high)

pub found_frame :
    (above count : ℕ) (φs : List Layer) (φ : Layer) (rest : List Layer) → FramesFall above φs →
    drop count φs ≡ φ ∷ rest → B.from_frame φ.at (map activation_of φs) ≡ map activation_of (φ ∷ rest)
found_frame above zero [] φ rest fall e = absurd (cc e)
found_frame above (suc n) [] φ rest fall e = absurd (cc e)
found_frame above zero (ψ ∷ ψs) φ rest fall e =
    let same : ψ ≡ φ = cc e in
    let at : ψ.at ≡ φ.at = ap (λ (x : Layer). x.at) same in
    ap (λ n. B.from_frame n (map activation_of (ψ ∷ ψs))) (sym at)
    ∙ ap (λ q. cond q (map activation_of (ψ ∷ ψs)) (B.from_frame ψ.at (map activation_of ψs))) (eqb-refl ψ.at)
    ∙ ap (λ xs. map activation_of xs) e
found_frame above (suc n) (ψ ∷ ψs) φ rest fall e =
    let low = low_frame ψ.at n ψs φ rest fall.1 e in
    ap (λ q. cond q (map activation_of (ψ ∷ ψs)) (B.from_frame φ.at (map activation_of ψs)))
    (eqb-other ψ.at φ.at (omega (arith, low)))
    ∙ found_frame ψ.at n ψs φ rest fall.1 e

-- ---- what lives then

pub low_left :
    (n : ℕ) (ls : List Living) → AreLow (suc n) ls → AreLow n (without_owner (suc n) ls)
low_left n [] low = tt
low_left n (l ∷ ls) low = by (l.owner == suc n) (test l.owner low.0) (low_left n ls low.1)
  where
    test : (o : ℕ) → o ≤ suc n → ((o == suc n) ≡ false) → o ≤ n
    test o h e = let ne = eqb-false o (suc n) e in omega (arith, h, ne)

    by :
        (q : Bool) → (q ≡ false → l.owner ≤ n) → AreLow n (without_owner (suc n) ls) →
        AreLow n (cond q (without_owner (suc n) ls) (l ∷ without_owner (suc n) ls))
    by true few rest = rest
    by false few rest = (few refl, rest)

filter_all :
    (π : Places) (n : ℕ) (ls : List Living) → AreLow n ls →
    filter (λ (l : S.Living). nat_le l.owner n) (map (served_living π) ls) ≡ map (served_living π) ls
filter_all π n [] low = refl
filter_all π n (l ∷ ls) low =
    let rest = filter (λ (l : S.Living). nat_le l.owner n) (map (served_living π) ls) in
    ap (λ q. cond q (served_living π l ∷ rest) rest) (le-leb l.owner n low.0)
    ∙ ap (λ xs. served_living π l ∷ xs) (filter_all π n ls low.1)

-- who is left of a lower height, first of those of a higher one
filter_twice :
    (n more : ℕ) (ls : List S.Living) → n ≤ more →
    filter (λ (l : S.Living). nat_le l.owner n) (filter (λ (l : S.Living). nat_le l.owner more) ls)
    ≡ filter (λ (l : S.Living). nat_le l.owner n) ls
filter_twice n more [] h = refl
filter_twice n more (l ∷ ls) h =
    by (nat_le l.owner n) (nat_le l.owner more) refl (test l.owner) (filter_twice n more ls h)
  where
    few : S.Living → Bool
    few l = nat_le l.owner n

    test : (o : ℕ) → nat_le o n ≡ true → nat_le o more ≡ true
    test o e = let f = leb-true o n e in le-leb o more (omega (arith, f, h))

    by :
        (q r : Bool) → few l ≡ q → (q ≡ true → r ≡ true) →
        filter few (filter (λ (l : S.Living). nat_le l.owner more) ls) ≡ filter few ls →
        filter few (cond r (l ∷ filter (λ (l : S.Living). nat_le l.owner more) ls)
        (filter (λ (l : S.Living). nat_le l.owner more) ls))
        ≡ cond q (l ∷ filter few ls) (filter few ls)
    by true true e both rest =
        ap (λ q. cond q (l ∷ filter few (filter (λ (l : S.Living). nat_le l.owner more) ls))
        (filter few (filter (λ (l : S.Living). nat_le l.owner more) ls))) e
        ∙ ap (λ xs. l ∷ xs) rest
    by true false e both rest = absurd (cc (both refl))
    by false true e both rest =
        ap (λ q. cond q (l ∷ filter few (filter (λ (l : S.Living). nat_le l.owner more) ls))
        (filter few (filter (λ (l : S.Living). nat_le l.owner more) ls))) e
        ∙ rest
    by false false e both rest = rest

-- ---- the storage machine, block by block

ended_first :
    (s : State) (a : Activation) (as' : List Activation) → s.activations ≡ a ∷ as' →
    newest_ended s ≡ record s { living = without_owner a.height s.living; activations = as' }
ended_first s a as' e = ap (λ xs. without_newest xs s) e

pub activations_ended : (n : ℕ) (s : State) → (ended_times n s).activations ≡ drop n s.activations
activations_ended zero s = refl
activations_ended (suc n) s = activations_ended n (newest_ended s) ∙ by s.activations refl
  where
    nothing : List Activation
    nothing = []

    none : (n : ℕ) → drop n nothing ≡ nothing
    none zero = refl
    none (suc n) = refl

    by : (as' : List Activation) → s.activations ≡ as' → drop n (without_newest as' s).activations ≡ drop (suc n) as'
    by [] e = ap (drop n) e ∙ none n
    by (a ∷ as') e = refl

pub active_behind :
    (units : UnitPlaces) (n : ℕ) (as' : List Activation) (φs : List Layer) → AreActive units as' φs →
    AreActive units (drop n as') (drop n φs)
active_behind units zero as' φs h = h
active_behind units (suc n) [] [] h = tt
active_behind units (suc n) [] (φ ∷ φs) h = absurd h
active_behind units (suc n) (a ∷ as') [] h = absurd h
active_behind units (suc n) (a ∷ as') (φ ∷ φs) h = active_behind units n as' φs h.1

-- what lives after so many ends
pub record Left (π : Places) (n : ℕ) (s : State) (left : ℕ) : Type 0 where
  pub living :
      filter (λ (l : S.Living). nat_le l.owner left) (map (served_living π) s.living)
      ≡ map (served_living π) (ended_times n s).living
  pub low : AreLow left (ended_times n s).living

pub left_behind :
    (units : UnitPlaces) (π : Places) (n left : ℕ) (s : State) (as' : List Activation) (φs : List Layer) →
    s.activations ≡ as' → AreActive units as' φs → length as' ≡ n + left → AreLow (length as') s.living →
    Left π n s left
left_behind units π zero left s as' φs e h many low =
    let same : length as' ≡ left = omega (arith, many) in
    let low' = subst (λ i. AreLow i s.living) same low in
    record { living = filter_all π left s.living low'; low = low' }
left_behind units π (suc n) left s [] φs e h many low = absurd (omega (arith, many))
left_behind units π (suc n) left s (a ∷ as') [] e h many low = absurd h
left_behind units π (suc n) left s (a ∷ as') (φ ∷ φs) e h many low =
    let s' : State = record s { living = without_owner a.height s.living; activations = as' } in
    let first = ended_first s a as' e in
    let height = h.0.height in
    let own : AreLow (length as') s'.living =
    subst (λ i. AreLow (length as') (without_owner i s.living)) (sym height) (low_left (length as') s.living low) in
    let rest = left_behind units π n left s' as' φs refl h.1 (omega (arith, many)) own in
    let few : S.Living → Bool = λ l. nat_le l.owner left in
    let one : filter (λ (l : S.Living). nat_le l.owner (length as')) (map (served_living π) s.living)
    ≡ map (served_living π) s'.living =
    served_left π (length as') s.living low
    ∙ ap (λ i. map (served_living π) (without_owner i s.living)) (sym height) in
    record {
      living =
          sym (filter_twice left (length as') (map (served_living π) s.living) (omega (arith, many)))
          ∙ ap (λ xs. filter (λ (l : S.Living). nat_le l.owner left) xs) one
          ∙ rest.living
          ∙ ap (λ t. map (served_living π) (ended_times n t).living) (sym first);
      low = subst (λ t. AreLow left (ended_times n t).living) (sym first) rest.low;
    }

-- what the ends of blocks leave of the storage machine
pub record Kept (n : ℕ) (s : State) : Type 0 where
  pub world : (ended_times n s).world ≡ s.world
  pub input : (ended_times n s).input ≡ s.input
  pub serials : (ended_times n s).serials ≡ s.serials

pub kept_behind : (n : ℕ) (s : State) → Kept n s
kept_behind zero s = record { world = refl; input = refl; serials = refl }
kept_behind (suc n) s = by s.activations (kept_behind n (newest_ended s)) refl
  where
    by : (as' : List Activation) → Kept n (newest_ended s) → newest_ended s ≡ without_newest as' s → Kept (suc n) s
    by [] k e =
        record {
          world = k.world ∙ ap (λ (t : State). t.world) e;
          input = k.input ∙ ap (λ (t : State). t.input) e;
          serials = k.serials ∙ ap (λ (t : State). t.serials) e;
        }
    by (a ∷ as') k e =
        record {
          world = k.world ∙ ap (λ (t : State). t.world) e;
          input = k.input ∙ ap (λ (t : State). t.input) e;
          serials = k.serials ∙ ap (λ (t : State). t.serials) e;
        }

-- ---- 6: unwind

drop_length : {A : Type 0} (n : ℕ) (xs : List A) (x : A) (rest : List A) → drop n xs ≡ x ∷ rest →
    length xs ≡ n + suc (length rest)
drop_length zero xs x rest e = ap (λ ys. length ys) e ∙ omega arith
drop_length (suc n) [] x rest e = absurd (cc e)
drop_length (suc n) (y ∷ ys) x rest e = let r = drop_length n ys x rest e in omega (arith, r)

map_length : (φs : List Layer) → length (map activation_of φs) ≡ length φs
map_length [] = refl
map_length (φ ∷ φs) = ap (λ n. suc n) (map_length φs)

pub unwind_answered :
    (units : UnitPlaces) (p : Point) (m : List ℕ) (count above keep : ℕ) (φ : Layer) (φs : List Layer)
    (kept : List S.Entry) → AreActive units p.state.activations p.control.layers →
    AreLow (length p.state.activations) p.state.living → FramesFall above p.control.layers →
    drop count p.control.layers ≡ φ ∷ φs → Keeps keep φ.entries p.control.entries kept →
    StandsOver φ.edits p.control.edits →
    B.unwind_served (at_point p m) φ.at keep ≡ Done (services_of (unwound count kept φ p)) m φ.at keep
unwind_answered units p m count above keep φ φs kept active low fall there keeps over =
    let v = services_of p in
    let c = at_point p m in
    let left = map activation_of (φ ∷ φs) in
    let many = drop_length count p.control.layers φ φs there in
    let same = same_length units p.state.activations p.control.layers active in
    let l = left_behind units p.places count (suc (length φs)) p.state p.state.activations p.control.layers refl active
    (omega (arith, many, same)) low in
    let with' : List S.Activation → List S.Living → List S.EditPlace → S.Services = λ xs ls es. record v {
      activations = xs;
      living = ls;
      entries = kept ++ φ.entries;
      edits = es;
    } in
    let edits' = B.oldest (length φ.edits) p.control.edits in
    let k = kept_behind count p.state in
    let now' : World → Input → ℕ → Answer = λ w i n. Done (record (services_of (unwound count kept φ p)) {
      world = w;
      input = i;
      serials = n;
    }) m φ.at keep in
    ap (λ xs. B.unwound c φ.at keep xs) (found_frame above count p.control.layers φ φs fall there)
    ∙ ap (λ o. or_bad (B.ended_with v left (length φ.edits) o) (λ v. Done v m φ.at keep))
    (kept_left keep φ.entries p.control.entries kept keeps)
    ∙ ap (λ n. Done (with' left (filter (λ (l : S.Living). nat_le l.owner n) v.living) edits') m φ.at keep)
    (map_length (φ ∷ φs))
    ∙ ap (λ ls. Done (with' left ls edits') m φ.at keep) l.living
    ∙ ap (λ es. Done (with' left (map (served_living p.places) (ended_times count p.state).living) es) m φ.at keep)
    (left_below φ.edits p.control.edits over)
    ∙ ap (λ xs. Done (with' (map activation_of xs) (map (served_living p.places) (ended_times count p.state).living)
    φ.edits) m φ.at keep) (sym there)
    ∙ ap (λ w. now' w p.state.input p.state.serials) (sym k.world)
    ∙ ap (λ i. now' (ended_times count p.state).world i p.state.serials) (sym k.input)
    ∙ ap (λ n. now' (ended_times count p.state).world (ended_times count p.state).input n) (sym k.serials)
