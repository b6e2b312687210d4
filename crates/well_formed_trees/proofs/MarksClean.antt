-- Marks without a refusal had none before, and the numbers that they judged are in range.
use Rattle.std.proofs.Common.{◌≡◌, ℕ, zero, suc, Bool, true, false, not, List, [], ◌∷◌, Option, Some, None, refl}
use Rattle.std.proofs.Common.{arith}
use Rattle.std.proofs.lemmas.Bool.Decides.{nat_tests}
use Rattle.pli_language.specs.declared.expr.Place.{Place}
use Rattle.pli_language.specs.declared.fault.SourceKind.{SourceKind}
use Rattle.pli_language.specs.declared.fault.SourceKind.TheVariants.{BadFormat}
use Rattle.pli_language.specs.declared.token.Kind.{Kind}
use Rattle.pli_language.specs.declared.token.Kind.TheVariants as K
use Rattle.pli_language.specs.declared.token.Symbol.TheVariants as S
use Rattle.pli_language.specs.declared.token.Token.{Token}
use Rattle.pli_language.specs.Marks.{Marks, fault_at, note_if, parenthesis_marks, parentheses_marks, argument_noted}
use Rattle.pli_language.specs.Marks.{argument, first_place, expr_marks, reference_marks, qualified_marks}
use Rattle.pli_language.specs.Marks.{arguments_marks, argument_list_marks, exprs_marks}
use Rattle.pli_language.specs.Formats as F
use Rattle.pli_language.specs.Formats.{SpellsFormat, SpellsFormatItems, SpellsFormats, Direction, Getting, Putting}
use Rattle.pli_language.specs.Formats.{is_width, is_times, width_marks, times_marks, text_marks, format_marks}
use Rattle.pli_language.specs.Formats.{formats_marks, formats_move_data, skip_marks}
use Rattle.pli_language.specs.Spells.{place_of}
use Rattle.pli_language.specs.Tree as T
use Rattle.well_formed_trees.specs.Ranges.{IsTimes, IsWidth, IsTextWidth, HasFormat, IsFormat, AreFormats}
use Rattle.well_formed_trees.specs.Ranges.{IsFormatList}
use Rattle.well_formed_trees.specs.Spelled.{RangedIf, RangedSkip}
use Rattle.well_formed_trees.proofs.Lists.{second_empty}

abbrev pub IsClean : Marks → Type 0
IsClean m = m.faults ≡ []

pub note_clean : (b : Bool) (p : Place) (k : SourceKind) (m : Marks) → IsClean (note_if b p k m)
    → (b ≡ false) × IsClean m
note_clean false p k m e = (refl, e)
note_clean true p k m e = absurd (cc (second_empty m.faults (fault_at p k ∷ []) e))

-- ---- parentheses, arguments and subscripts

parenthesis_clean : (t : Token) (k : Kind) (opened : ℕ) (m : Marks) → IsClean (parenthesis_marks t k opened m).1
    → IsClean m
parenthesis_clean t (K.Symbol S.OpenParenthesis) opened m e = (note_clean _ _ _ m e).1
parenthesis_clean t _ opened m e = e

pub parentheses_clean : (opened : ℕ) (ts : List Token) (m : Marks) → IsClean (parentheses_marks opened ts m)
    → IsClean m
unfolding parentheses_marks
parentheses_clean opened [] m e = e
parentheses_clean opened (t ∷ ts) m e =
    let next = parenthesis_marks t t.kind opened m in
    parenthesis_clean t t.kind opened m (parentheses_clean next.0 ts next.1 e)

noted_clean : (room : ℕ) (p : Place) (m : Marks) → IsClean (argument_noted room p m) → IsClean m
noted_clean zero p m e = absurd (cc (second_empty m.faults (fault_at p _ ∷ []) e))
noted_clean (suc n) p m e = e

mutual
  unfolding expr_marks reference_marks qualified_marks arguments_marks argument_list_marks

  pub expr_clean : (e : T.Expr) (m : Marks) → IsClean (expr_marks e m) → IsClean m
  expr_clean (T.Number v p) m h = h
  expr_clean (T.Text v p) m h = h
  expr_clean (T.Bit v p) m h = h
  expr_clean (T.Parenthesized e p) m h = expr_clean e m h
  expr_clean (T.Prefix op e p) m h = expr_clean e m h
  expr_clean (T.Infix op l r) m h = expr_clean l m (expr_clean r (expr_marks l m) h)
  expr_clean (T.Refers r) m h = reference_clean r m h

  pub reference_clean : (r : T.Reference) (m : Marks) → IsClean (reference_marks r m) → IsClean m
  reference_clean (T.Plain q) m h = qualified_clean q m h
  reference_clean (T.Located r q) m h = reference_clean r m (qualified_clean q (reference_marks r m) h)

  qualified_clean : (q : T.Qualified) (m : Marks) → IsClean (qualified_marks q m) → IsClean m
  qualified_clean (T.Last n a) m h = arguments_clean a m h
  qualified_clean (T.Of n a q) m h = arguments_clean a m (qualified_clean q (arguments_marks a m) h)

  arguments_clean : (a : T.Arguments) (m : Marks) → IsClean (arguments_marks a m) → IsClean m
  arguments_clean T.Absent m h = h
  arguments_clean (T.Listed es) m h = argument_list_clean es m h

  argument_list_clean : (es : T.Exprs) (m : Marks) → IsClean (argument_list_marks es m) → IsClean m
  argument_list_clean T.NoExpr m h = h
  argument_list_clean (T.ExprThen e es) m h =
      let noted = argument (first_place e) m in
      noted_clean m.room (first_place e) m (expr_clean e noted (argument_list_clean es (expr_marks e noted) h))

exprs_clean : (es : T.Exprs) (m : Marks) → IsClean (exprs_marks es m) → IsClean m
unfolding exprs_marks
exprs_clean T.NoExpr m h = h
exprs_clean (T.ExprThen e es) m h = expr_clean e m (exprs_clean es (expr_marks e m) h)

-- ---- format lists

width_is : (n : ℕ) → not (is_width n) ≡ false → IsWidth n
width_is n e = (grind (arith, nat_tests), grind (arith, nat_tests))

times_is : (n : ℕ) → not (is_times n) ≡ false → IsTimes n
times_is n e = (grind (arith, nat_tests), grind (arith, nat_tests))

width_clean : (n : ℕ) (p : Place) (m : Marks) → IsClean (width_marks n p m) → IsWidth n × IsClean m
width_clean n p m e =
    let a = note_clean (not (is_width n)) p BadFormat m e in
    (width_is n a.0, a.1)

times_clean : (n : ℕ) (p : Place) (m : Marks) → IsClean (times_marks n p m) → IsTimes n × IsClean m
times_clean n p m e =
    let a = note_clean (not (is_times n)) p BadFormat m e in
    (times_is n a.0, a.1)

text_clean : (d : Direction) (w : Option ℕ) (p : Place) (m : Marks) → IsClean (text_marks d w p m)
    → IsTextWidth d w × IsClean m
text_clean d (Some w) p m e = width_clean w p m e
text_clean Getting None p m e = absurd (cc (note_clean true p BadFormat m e).0)
text_clean Putting None p m e = (tt, e)

mutual
  unfolding format_marks formats_marks

  format_clean : {ts rest : List Token} {f : T.Format} (d : Direction) (p : Place) (m : Marks)
      → SpellsFormat ts f rest → IsClean (format_marks d f p m) → IsFormat d f × IsClean m
  format_clean d p m (F.nested ts rest fs sp) e = formats_clean d m sp e
  format_clean d p m (F.fixed ts after rest t w taken counted) e = width_clean w p m e
  format_clean d p m (F.text ts after rest t w taken counted) e = text_clean d w p m e
  format_clean d p m (F.space ts after rest t n taken counted) e = times_clean n p m e
  format_clean d p m (F.skip ts after rest t n taken counted) e = times_clean n p m e
  format_clean d p m (F.column ts after rest t n taken counted) e = times_clean n p m e

  items_clean : {ts rest : List Token} {fs : T.Formats} (d : Direction) (m : Marks) → SpellsFormatItems ts fs rest
      → IsClean (formats_marks d fs m) → (HasFormat fs × AreFormats d fs) × IsClean m
  items_clean d m (F.last_item ts behind_it mid rest t u n f is at times sp closed) e =
      let p = place_of t in
      let a = format_clean d p (times_marks n p m) sp e in
      let b = times_clean n p m a.1 in
      ((tt, (b.0, (a.0, tt))), b.1)
  items_clean d m (F.further_items ts behind_it mid after rest t u n f fs is at times sp comma more) e =
      let p = place_of t in
      let c = items_clean d (format_marks d f p (times_marks n p m)) more e in
      let a = format_clean d p (times_marks n p m) sp c.1 in
      let b = times_clean n p m a.1 in
      ((tt, (b.0, (a.0, c.0.1))), b.1)

  formats_clean : {ts rest : List Token} {fs : T.Formats} (d : Direction) (m : Marks) → SpellsFormats ts fs rest
      → IsClean (formats_marks d fs m) → (HasFormat fs × AreFormats d fs) × IsClean m
  formats_clean d m (F.formats ts after rest t fs opened sp) e = items_clean d m sp e

not_false : (b : Bool) → not b ≡ false → b ≡ true
not_false true e = refl
not_false false e = absurd (cc e)

-- a format list of a statement, and what was marked before it
pub list_clean : {ts rest : List Token} (d : Direction) (items : T.Exprs) (fs : T.Formats) (p : Place) (m : Marks)
    → SpellsFormats ts fs rest
    → IsClean (note_if (not (formats_move_data fs)) p BadFormat (formats_marks d fs (exprs_marks items m)))
    → IsFormatList d fs × IsClean m
list_clean d items fs p m sp e =
    let a = note_clean (not (formats_move_data fs)) p BadFormat (formats_marks d fs (exprs_marks items m)) e in
    let b = formats_clean d (exprs_marks items m) sp a.1 in
    (record { formats_are = b.0.1; moves_data = not_false (formats_move_data fs) a.0 }, exprs_clean items m b.1)

pub skip_clean : (k : Option T.Skip) (m : Marks) → IsClean (skip_marks k m) → RangedIf RangedSkip k
skip_clean None m e = tt
skip_clean (Some k) m e = (times_clean k.number k.place m e).0
