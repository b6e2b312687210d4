-- The least of what was found so far, and how it decides.
use Rattle.std.proofs.Common.{◌≡◌, ℕ, zero, suc, ◌-◌, ◌<◌, List, [], ◌++◌, length, Option, Some, None, Ok, Err, refl, sym, ap, ◌∙◌, subst, arith}
use Rattle.std.specs.Prelude.{MatchOption}
use Rattle.pli_language.specs.declared.fault.SourceFault.{SourceFault}
use Rattle.pli_language.specs.declared.token.Token.{Token}
use Rattle.pli_language.specs.Nesting.{Nest, outermost}
use Rattle.pli_language.specs.Parsing.{Reads, Spells, RefusesTokens}
use Rattle.pli_language.specs.Refusals.{IsLeast, soonest, least}
use Rattle.pli_language.specs.Tree.{Tree}
use Rattle.pli_language.proofs.Least.{least_found, soonest-append}
use Rattle.pli_parse.specs.Answers.{Verdict, verdict, answer, On, Ends, stepped}
use Rattle.pli_parse.specs.Reading.{Parsed, broken_before, Turn, GoesOn, Over, turn, turned, source_from, parsed}
use Rattle.pli_parse.proofs.Sound.{TurnReads, turn_sound, source_sound}

-- ---- what was found before

pub soonest_in_two : (found : Option SourceFault) (xs ys : List SourceFault) → soonest found (xs ++ ys) ≡ soonest (soonest found xs) ys
soonest_in_two found xs ys = soonest-append found xs ys

pub answer_before : (found : Option SourceFault) (fs : List SourceFault) (r : Parsed) → answer found (broken_before fs r) ≡ answer (soonest found fs) r
answer_before found fs r = ap (λ o. verdict o r.tree) (soonest_in_two found fs r.faults)

-- ---- what an answer says

accepted : (o : Option SourceFault) (t : Option Tree) (tree : Tree) → verdict o t ≡ Some (Ok tree) → (o ≡ None) × (t ≡ Some tree)
accepted None (Some u) tree e = let i : u ≡ tree = cc e in (refl, ap Some i)
accepted None None tree e = absurd (cc e)
accepted (Some f) t tree e = absurd (cc e)

refused : (o : Option SourceFault) (t : Option Tree) (f : SourceFault) → verdict o t ≡ Some (Err f) → o ≡ Some f
refused None (Some u) f e = absurd (cc e)
refused None None f e = absurd (cc e)
refused (Some g) t f e = let i : g ≡ f = cc e in ap Some i

none_found : (faults : List SourceFault) → least faults ≡ None → faults ≡ []
none_found faults e = subst (λ o. MatchOption o (faults ≡ []) (IsLeast faults)) e (least_found faults)

one_found : (faults : List SourceFault) (f : SourceFault) → least faults ≡ Some f → IsLeast faults f
one_found faults f e = subst (λ o. MatchOption o (faults ≡ []) (IsLeast faults)) e (least_found faults)

all_read : (s : List ℕ) (ts : List Token) → Reads s outermost ts (parsed s outermost ts).faults (parsed s outermost ts).tree
all_read s ts = source_sound (suc (length ts)) s outermost ts (omega arith)

pub answer_spells : (s : List ℕ) (ts : List Token) (tree : Tree) → answer None (parsed s outermost ts) ≡ Some (Ok tree) → Spells s ts tree
answer_spells s ts tree e =
    let p : Parsed = parsed s outermost ts in
    let h = accepted (least p.faults) p.tree tree e in
    let none : p.faults ≡ [] = none_found p.faults h.0 in
    let r : Reads s outermost ts [] p.tree = subst (λ u. Reads s outermost ts u p.tree) none (all_read s ts) in
    subst (λ u. Reads s outermost ts [] u) h.1 r

pub answer_refuses : (s : List ℕ) (ts : List Token) (f : SourceFault) → answer None (parsed s outermost ts) ≡ Some (Err f) → RefusesTokens s ts f
answer_refuses s ts f e =
    let p : Parsed = parsed s outermost ts in
    record { faults = p.faults; tree = p.tree; read = all_read s ts; least = one_found p.faults f (refused (least p.faults) p.tree f e) }

-- ---- the loop over heads

-- what is read from here on, with what was found so far, is what is wanted, with fuel enough for the tokens that are left
pub record OnSource (s : List ℕ) (found : Option SourceFault) (n : Nest) (rest : List Token) (target : Verdict) : Type 0 where
  pub fuel : ℕ
  pub enough : length rest < fuel
  pub reads : answer found (source_from fuel s n rest) ≡ target

pub source_start : (s : List ℕ) (n : Nest) (ts : List Token) → OnSource s None n ts (answer None (parsed s n ts))
source_start s n ts = record { fuel = suc (length ts); enough = omega arith; reads = refl }

source_step : (fuel : ℕ) (s : List ℕ) (n : Nest) (ts : List Token) → 0 < fuel → source_from fuel s n ts ≡ turned (λ n' rest. source_from (fuel - 1) s n' rest) (turn s n ts)
unfolding source_from
source_step zero s n ts z = absurd (omega (arith, z))
source_step (suc fuel) s n ts z =
    let e : fuel ≡ suc fuel - 1 = omega arith in
    ap (λ k. turned (λ n' rest. source_from k s n' rest) (turn s n ts)) e

-- how a step came about
record StepOn (t : Turn) (found : Option SourceFault) (n' : Nest) (rest' : List Token) (found' : Option SourceFault) : Type 0 where
  faults : List SourceFault
  is : t ≡ GoesOn faults n' rest'
  found_is : soonest found faults ≡ found'

step_on : (t : Turn) (found : Option SourceFault) (n' : Nest) (rest' : List Token) (found' : Option SourceFault) → stepped found t ≡ On n' rest' found' → StepOn t found n' rest' found'
step_on (GoesOn fs n rest) found n' rest' found' e =
    let i : n ≡ n' = cc e in
    let j : rest ≡ rest' = cc e in
    let k : soonest found fs ≡ found' = cc e in
    record { faults = fs; is = cc (i, j); found_is = k }
step_on (Over r) found n' rest' found' e = absurd (cc e)

record StepEnds (t : Turn) (found : Option SourceFault) (v : Verdict) : Type 0 where
  reading : Parsed
  is : t ≡ Over reading
  answer_is : answer found reading ≡ v

step_ends : (t : Turn) (found : Option SourceFault) (v : Verdict) → stepped found t ≡ Ends v → StepEnds t found v
step_ends (GoesOn fs n rest) found v e = absurd (cc e)
step_ends (Over r) found v e = let i : answer found r ≡ v = cc e in record { reading = r; is = refl; answer_is = i }

module _ (s : List ℕ) (found : Option SourceFault) (n : Nest) (rest : List Token) where
  pub source_smaller : (n' : Nest) (rest' : List Token) (found' : Option SourceFault) → stepped found (turn s n rest) ≡ On n' rest' found' → length rest' < length rest
  source_smaller n' rest' found' e =
      let h = step_on (turn s n rest) found n' rest' found' e in
      let t : TurnReads s n rest (GoesOn h.faults n' rest') = subst (λ u. TurnReads s n rest u) h.is (turn_sound s n rest) in
      t.holds.0

  pub source_on : (target : Verdict) (n' : Nest) (rest' : List Token) (found' : Option SourceFault) → OnSource s found n rest target → stepped found (turn s n rest) ≡ On n' rest' found' → OnSource s found' n' rest' target
  source_on target n' rest' found' w e =
      let h = step_on (turn s n rest) found n' rest' found' e in
      let less = source_smaller n' rest' found' e in
      let further : Nest → List Token → Parsed = λ m us. source_from (w.fuel - 1) s m us in
      let at : source_from w.fuel s n rest ≡ broken_before h.faults (further n' rest') = source_step w.fuel s n rest (omega (arith, w.enough)) ∙ ap (turned further) h.is in
      let same = ap (answer found) at ∙ answer_before found h.faults (further n' rest') ∙ ap (λ o. answer o (further n' rest')) h.found_is in
      record { fuel = w.fuel - 1; enough = omega (arith, less, w.enough); reads = sym same ∙ w.reads }

  pub source_ends : (target v : Verdict) → OnSource s found n rest target → stepped found (turn s n rest) ≡ Ends v → target ≡ v
  source_ends target v w e =
      let h = step_ends (turn s n rest) found v e in
      let further : Nest → List Token → Parsed = λ m us. source_from (w.fuel - 1) s m us in
      let at : source_from w.fuel s n rest ≡ h.reading = source_step w.fuel s n rest (omega (arith, w.enough)) ∙ ap (turned further) h.is in
      sym w.reads ∙ ap (answer found) at ∙ h.answer_is
