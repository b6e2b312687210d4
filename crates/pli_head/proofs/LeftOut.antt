-- Forms that are left out: what the rules say is left out is answered so, and stands at a token from here on.
use Rattle.std.proofs.Common.{◌≡◌, ℕ, ◌≤◌, List, length, true, refl, ap, ◌∙◌, arith, Err}
use Rattle.pli_language.specs.declared.expr.Place.{Place}
use Rattle.pli_language.specs.declared.token.Word.{Word}
use Rattle.pli_language.specs.declared.token.Word.TheVariants as W
use Rattle.pli_language.specs.declared.token.Kind.TheVariants as K
use Rattle.pli_language.specs.declared.token.Token.{Token}
use Rattle.pli_language.specs.Attributes as D
use Rattle.pli_language.specs.Attributes.{LeavesOutAttributes, LeavesOutItems}
use Rattle.pli_language.specs.Formats.{Direction, Getting, Putting}
use Rattle.pli_language.specs.Marks.{Marks, no_marks}
use Rattle.pli_language.specs.Spells.{Takes, place_of}
use Rattle.pli_language.specs.Heads as G
use Rattle.pli_language.specs.Heads.{SpellsParameters, LeavesOutOptions, is_left_out_head, is_left_out_stream, parameters_marks}
use Rattle.pli_language.specs.Tree as T
use Rattle.pli_phrase.specs.Cursor.{Cursor, LeavesOut, onto}
use Rattle.pli_attributes.proofs.Posts.{post_is, post_leaves}
use Rattle.pli_attributes.proofs.AttributeLaws.{Begun, attribute_post, attribute_complete, attributes_post, attributes_left_out}
use Rattle.pli_attributes.proofs.Items.{front_post, front_complete, declare_item_post, declare_item_complete, declare_items_post, declare_items_left_out}
use Rattle.pli_stream.proofs.Laws.{transfer_left_out}
use Rattle.pli_clause.proofs.ParameterLaws.{parameters_post, parameters_complete}
use Rattle.pli_clause.proofs.OptionLaws.{option_shorter, options_left_out}
use Rattle.pli_head.specs.Reading.{procedure_from, declaring_from, moved_from, simple_behind, head_behind, head_from}
use Rattle.pli_head.proofs.CompleteStatements.{head_named}

-- ---- what is left out is answered

left_word : (s : List ℕ) (at : List Token) (p : Place) (word : Word) (c : Cursor) → is_left_out_head word ≡ true → head_behind s at p word c ≡ Err (LeavesOut (onto at c))
unfolding head_behind simple_behind
left_word s at p W.Open c e = refl
left_word s at p W.Close c e = refl
left_word s at p W.Read c e = refl
left_word s at p W.Write c e = refl
left_word s at p W.Rewrite c e = refl
left_word s at p W.Delete c e = refl
left_word s at p W.Locate c e = refl
left_word s at p W.Select c e = refl
left_word s at p W.Leave c e = refl
left_word s at p W.Exit c e = refl
left_word s at p W.Format c e = refl
left_word s at p W.Default c e = refl
left_word s at p W.Entry c e = refl
left_word s at p _ c e = absurd (cc e)

procedure_left_out : {s : List ℕ} {ts mid at : List Token} {ns : List T.Name} {m' : Marks} (p : Place) (m : Marks) → SpellsParameters s ts ns mid → LeavesOutOptions s mid (parameters_marks 0 ns m) at m' → procedure_from s p (record { tokens = ts; marks = m }) ≡ Err (LeavesOut (record { tokens = at; marks = m' }))
unfolding procedure_from
procedure_left_out p m g h =
    let a = parameters_complete m g in
    let b = options_left_out h in
    rw (a, b) refl

declaring_left_out : {s : List ℕ} {ts at : List Token} {m m' : Marks} (p : Place) → LeavesOutItems s ts m at m' → declaring_from s p (record { tokens = ts; marks = m }) ≡ Err (LeavesOut (record { tokens = at; marks = m' }))
declaring_left_out p h = rw (declare_items_left_out h) refl

moved_left_out : (s : List ℕ) (d : Direction) {ts rest : List Token} {u : Token} {word : Word} (p : Place) (m : Marks) → Takes ts (K.Name word) u rest → is_left_out_stream word ≡ true → moved_from s d p (record { tokens = ts; marks = m }) ≡ Err (LeavesOut (record { tokens = ts; marks = m }))
moved_left_out s d p m k e = rw (transfer_left_out s d m k e) refl

pub head_left_out : {s : List ℕ} {ts at : List Token} {m m' : Marks} → G.LeavesOut s ts m at m' → head_from s (record { tokens = ts; marks = m }) ≡ Err (LeavesOut (record { tokens = at; marks = m' }))
unfolding head_behind simple_behind
head_left_out {s} (G.head ts rest m t word o e) = head_named m o ∙ left_word s ts (place_of t) word (record { tokens = rest; marks = m }) e
head_left_out {s} (G.stream Getting ts after rest m t u word o k e) = head_named m o ∙ rw (moved_left_out s Getting (place_of t) m k e) refl
head_left_out {s} (G.stream Putting ts after rest m t u word o k e) = head_named m o ∙ rw (moved_left_out s Putting (place_of t) m k e) refl
head_left_out (G.declare ts after at m m' t o h) = head_named m o ∙ declaring_left_out (place_of t) h
head_left_out (G.procedure ts after mid at m m' t ns o g h) = head_named m o ∙ procedure_left_out (place_of t) m g h

-- ---- where it stands

attributes_no_longer : {s : List ℕ} {ts at : List Token} {m m' : Marks} → LeavesOutAttributes s ts m at m' → length at ≤ length ts
attributes_no_longer (D.here ts m h) = omega arith
attributes_no_longer {s} (D.later ts mid at m m' a h more) =
    let i = (post_is (attribute_post s (record { tokens = ts; marks = no_marks })) (attribute_complete no_marks h)).shorter in
    let j = attributes_no_longer more in
    omega (arith, i, j)

items_no_longer : {s : List ℕ} {ts at : List Token} {m m' : Marks} → LeavesOutItems s ts m at m' → length at ≤ length ts
items_no_longer {s} (D.in_item ts mid at m m' f g h) =
    let i = (post_is (front_post s (record { tokens = ts; marks = no_marks })) (front_complete no_marks g)).shorter in
    let j = attributes_no_longer h in
    omega (arith, i, j)
items_no_longer {s} (D.behind_item ts mid after at t m m' d g k more) =
    let i = (post_is (declare_item_post s (record { tokens = ts; marks = no_marks })) (declare_item_complete no_marks g)).shorter in
    let j = items_no_longer more in
    omega (arith, i, ap length k.is, j)

options_no_longer : {s : List ℕ} {ts at : List Token} {m m' : Marks} → LeavesOutOptions s ts m at m' → length at ≤ length ts
options_no_longer (G.in_returns ts after mid at m m' t u a o h) =
    let j = attributes_no_longer h in
    omega (arith, ap length a.is, ap length o.is, j)
options_no_longer (G.behind_option ts mid at m m' o h more) =
    let i = option_shorter h in
    let j = options_no_longer more in
    omega (arith, i, j)

pub left_out_no_longer : {s : List ℕ} {ts at : List Token} {m m' : Marks} → G.LeavesOut s ts m at m' → length at ≤ length ts
left_out_no_longer (G.head ts rest m t word o e) = omega arith
left_out_no_longer (G.stream d ts after rest m t u word o k e) = omega (arith, ap length o.taken.is)
left_out_no_longer (G.declare ts after at m m' t o h) =
    let j = items_no_longer h in
    omega (arith, ap length o.taken.is, j)
left_out_no_longer {s} (G.procedure ts after mid at m m' t ns o g h) =
    let i = (post_is (parameters_post s (record { tokens = after; marks = no_marks })) (parameters_complete no_marks g)).shorter in
    let j = options_no_longer h in
    omega (arith, ap length o.taken.is, i, j)

attributes_begun : {s : List ℕ} {ts at : List Token} {m m' : Marks} → LeavesOutAttributes s ts m at m' → Begun at
attributes_begun {s} {ts} {m = m} h = (post_leaves (attributes_post s (record { tokens = ts; marks = m })) (attributes_left_out h)).begun

items_begun : {s : List ℕ} {ts at : List Token} {m m' : Marks} → LeavesOutItems s ts m at m' → Begun at
items_begun {s} {ts} {m = m} h = (post_leaves (declare_items_post s (record { tokens = ts; marks = m })) (declare_items_left_out h)).begun

options_begun : {s : List ℕ} {ts at : List Token} {m m' : Marks} → LeavesOutOptions s ts m at m' → Begun at
options_begun (G.in_returns ts after mid at m m' t u a o h) = attributes_begun h
options_begun (G.behind_option ts mid at m m' o h more) = options_begun more

pub left_out_begun : {s : List ℕ} {ts at : List Token} {m m' : Marks} → G.LeavesOut s ts m at m' → Begun at
left_out_begun (G.head ts rest m t word o e) = record { token = t; behind = rest; is = o.taken.is }
left_out_begun (G.stream d ts after rest m t u word o k e) = record { token = u; behind = rest; is = k.is }
left_out_begun (G.declare ts after at m m' t o h) = items_begun h
left_out_begun (G.procedure ts after mid at m m' t ns o g h) = options_begun h
