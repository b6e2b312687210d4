use Rattle.std.proofs.Common.{ℤ, [], ◌∷◌, ◌++◌, ◌<◌, ◌-◌, ◌∙◌, ap, arith, drop, length, map, reverse, rules, FitsSigned, w32}
use Rattle.std.proofs.lemmas.Int.{to_z-of_z}
use Rattle.pli_types.specs.View.{pair_of}
use Rattle.pli_values.proofs.Rows.{digits_back, no_rows_left, none_there, one_back, rows_back, rows_left, some_back}
use Rattle.pli_values.proofs.subscripts.subscripts_at.Goals as goal

pub returns-then-elements-eq0 : goal.returns-then-elements-eq0
returns-then-elements-eq0 c =
    let left = c.loop-left.left in
    let inside : left - 1 < length c.args.dimensions.now = omega (arith, c.loop-left.invariant.low, c.loop-left-test.true) in
    none_there c.args.dimensions.now (left - 1) c.span-elements.result c.args.place _ inside c.span-elements.ensures c.if-elements-eq0.true

pub loop-left-preserved : goal.loop-left-preserved
loop-left-preserved c =
    let left = c.loop-left.left in
    let xs = c.args.dimensions.now in
    let known = c.loop-left.invariant in
    let fits : FitsSigned w32 c.subscript_behind.result = search (rules, c.subscript_behind.type_inv) in
    let back = one_back xs left _ c.loop-left-test.true known.low in
    let pushed = c.in_ok-push.ensures.ok ∙ ap (λ (z : ℤ). c.loop-left.subscripts.items ++ z ∷ []) (to_z-of_z w32 c.subscript_behind.result fits) in
    record {
      low = omega (arith, known.low);
      some = some_back _ (map pair_of (drop left xs)) _ c.span-elements.result back c.span-elements.ensures c.if-elements-eq0.false known.some;
      rows = rows_back _ (map pair_of (drop left xs)) _ c.span-elements.result c.loop-left.rows c.args.place back c.span-elements.ensures known.rows;
      behind = digits_back _ (map pair_of (drop left xs)) _ c.span-elements.result c.loop-left.rows c.args.place c.subscript_behind.result c.loop-left.subscripts.items c.push.new.self.items back c.span-elements.ensures known.rows c.subscript_behind.ensures pushed known.behind;
    }

pub returns-then-rows-gt0 : goal.returns-then-rows-gt0
returns-then-rows-gt0 c =
    rows_left c.args.dimensions.now c.loop-left.left c.loop-left.rows c.args.place c.loop-left-test.false c.loop-left.invariant.rows c.if-rows-gt0.true

pub returns : goal.returns
returns c =
    let known = c.loop-left.invariant in
    no_rows_left c.args.dimensions.now c.loop-left.left c.loop-left.rows c.args.place c.loop-left.subscripts.items c.reverse.new.self c.loop-left-test.false known.some known.rows c.if-rows-gt0.false known.behind (c.reverse.ensures.after ∙ ap reverse c.deref_mut.ensures.value)
