-- The parts of a DO that counts, as the class admits them.
use Rattle.std.proofs.Common.{◌≡◌, ℕ, ◌≤◌, Option, None, Some, true, refl, ap, ◌∙◌, arith}
use Rattle.std.specs.Prelude.{◌&&◌, ◌==◌, ◌^◌, ℤ, nat_lt, neg_ℤ, pos}
use Rattle.std.proofs.lemmas.Bool.{and_from, and_parts, eqb-true, ltb-true}
use Rattle.pli_typing.specs.TypedTree as Y
use Rattle.expression_runs.specs.Variables.{Spot, whole}
use Rattle.counter_runs.specs.Counts.{Counting, IsStep, count_of}
use Rattle.counter_runs.proofs.StepConstants.{down_step, up_step}
use Rattle.number_runs.specs.Counting.{is_condition, is_count, is_counter, is_limit, is_start, is_step}
use Rattle.number_runs.specs.Numbers.{Scope, is_known, is_number, is_variable, number_needs, number_sets}
use Rattle.number_runs.proofs.Variables.{variable_is}

-- ---- the variable

record IsSpot (s : Scope) (k : Y.Counter) : Type 0 where
  spot : Spot
  is : k ≡ Y.NumberCounter 31 (whole spot)
  known : is_known s spot ≡ true

counter_is : (s : Scope) (k : Y.Counter) → is_counter s k ≡ true → IsSpot s k
counter_is s (Y.NumberCounter precision r) h =
    let a = and_parts (precision == 31) (is_variable s r) h in
    let v = variable_is s r a.1 in
    record {
      spot = v.spot;
      is =
          ap (λ n. Y.NumberCounter n r) (eqb-true precision 31 a.0) ∙ ap (λ q. Y.NumberCounter 31 q) v.is;
      known = v.known;
    }
counter_is s (Y.TextCounter r) h = absurd (cc h)

-- ---- start and limit

record IsFirst (s : Scope) (v : Y.Value) : Type 0 where
  precision : ℕ
  number : Y.Number
  is : v ≡ Y.NumberValue precision number
  known : is_number s number ≡ true

first_is : (s : Scope) (v : Y.Value) → is_start s v ≡ true → IsFirst s v
first_is s (Y.NumberValue precision x) h = record { precision = precision; number = x; is = refl; known = h }
first_is s (Y.TextValue x) h = absurd (cc h)
first_is s (Y.BitValue x) h = absurd (cc h)
first_is s (Y.PointerValue x) h = absurd (cc h)
first_is s (Y.OffsetValue area x) h = absurd (cc h)
first_is s Y.NullValue h = absurd (cc h)

record IsLast (s : Scope) (o : Option Y.Number) : Type 0 where
  number : Y.Number
  is : o ≡ Some number
  known : is_number s number ≡ true

last_is : (s : Scope) (o : Option Y.Number) → is_limit s o ≡ true → IsLast s o
last_is s None h = absurd (cc h)
last_is s (Some x) h = record { number = x; is = refl; known = h }

-- ---- the step

record HasStep (s : Scope) (x : Y.Number) : Type 0 where
  by : ℤ
  is : IsStep x by
  known : is_number s x ≡ true
  few : number_needs x ≤ 1
  sets : number_sets x ≡ 0

negative_is :
    (s : Scope) (x : Y.Number) → s.overflows ≡ true → is_step (Y.Signed Y.Negative x) ≡ true →
    HasStep s (Y.Signed Y.Negative x)
negative_is s (Y.NumberConstant n) may h =
    record {
      by = neg_ℤ (pos n);
      is = down_step n (ltb-true n (2 ^ 31) h);
      known = and_from s.overflows (nat_lt n (2 ^ 31)) may h;
      few = omega arith;
      sets = refl;
    }
negative_is s (Y.NumberIn r) may h = absurd (cc h)
negative_is s (Y.NumberFrom c) may h = absurd (cc h)
negative_is s (Y.NumberOfText x) may h = absurd (cc h)
negative_is s (Y.NumberOfBit x) may h = absurd (cc h)
negative_is s (Y.Signed sign x) may h = absurd (cc h)
negative_is s (Y.Calculated operator left right) may h = absurd (cc h)
negative_is s (Y.Absolute x) may h = absurd (cc h)
negative_is s (Y.SignOf x) may h = absurd (cc h)
negative_is s (Y.Extreme extremum first more) may h = absurd (cc h)
negative_is s (Y.Modulo dividend divisor) may h = absurd (cc h)
negative_is s (Y.Divided precision dividend divisor) may h = absurd (cc h)
negative_is s (Y.LengthOf x) may h = absurd (cc h)
negative_is s (Y.IndexOf x y) may h = absurd (cc h)
negative_is s (Y.VerifyOf x y) may h = absurd (cc h)
negative_is s (Y.LowerBound r n) may h = absurd (cc h)
negative_is s (Y.UpperBound r n) may h = absurd (cc h)
negative_is s (Y.ElementsOf r n) may h = absurd (cc h)
negative_is s (Y.AllocationsOf v) may h = absurd (cc h)
negative_is s Y.OnCode may h = absurd (cc h)

step_is : (s : Scope) (x : Y.Number) → s.overflows ≡ true → is_step x ≡ true → HasStep s x
step_is s (Y.NumberConstant n) may h =
    record { by = pos n; is = up_step n (ltb-true n (2 ^ 31) h); known = h; few = omega arith; sets = refl }
step_is s (Y.Signed Y.Positive x) may h = absurd (cc h)
step_is s (Y.Signed Y.Negative x) may h = negative_is s x may h
step_is s (Y.NumberIn r) may h = absurd (cc h)
step_is s (Y.NumberFrom c) may h = absurd (cc h)
step_is s (Y.NumberOfText x) may h = absurd (cc h)
step_is s (Y.NumberOfBit x) may h = absurd (cc h)
step_is s (Y.Calculated operator left right) may h = absurd (cc h)
step_is s (Y.Absolute x) may h = absurd (cc h)
step_is s (Y.SignOf x) may h = absurd (cc h)
step_is s (Y.Extreme extremum first more) may h = absurd (cc h)
step_is s (Y.Modulo dividend divisor) may h = absurd (cc h)
step_is s (Y.Divided precision dividend divisor) may h = absurd (cc h)
step_is s (Y.LengthOf x) may h = absurd (cc h)
step_is s (Y.IndexOf x y) may h = absurd (cc h)
step_is s (Y.VerifyOf x y) may h = absurd (cc h)
step_is s (Y.LowerBound r n) may h = absurd (cc h)
step_is s (Y.UpperBound r n) may h = absurd (cc h)
step_is s (Y.ElementsOf r n) may h = absurd (cc h)
step_is s (Y.AllocationsOf v) may h = absurd (cc h)
step_is s Y.OnCode may h = absurd (cc h)

-- ---- all of them

pub record IsCounting (s : Scope) (k : Y.Counter) (v : Y.Value) (o : Option Y.Number) (x : Y.Number)
    (w : Option Y.Bit) : Type 0
  where
    pub overflows : s.overflows ≡ true
    pub spot : Spot
    pub precision : ℕ
    pub first : Y.Number
    pub last : Y.Number
    pub by : ℤ
    pub counter : k ≡ Y.NumberCounter 31 (whole spot)
    pub start : v ≡ Y.NumberValue precision first
    pub limit : o ≡ Some last
    pub step : IsStep x by
    pub step_known : is_number s x ≡ true
    pub step_few : number_needs x ≤ 1
    pub step_sets : number_sets x ≡ 0
    pub tested : is_condition s w ≡ true
    pub known : is_known s spot ≡ true
    pub first_known : is_number s first ≡ true
    pub last_known : is_number s last ≡ true

pub counting_is :
    (s : Scope) (k : Y.Counter) (v : Y.Value) (o : Option Y.Number) (x : Y.Number) (w : Option Y.Bit) →
    is_count s k v o x w ≡ true → IsCounting s k v o x w
counting_is s k v o x w h =
    let last = is_step x && is_condition s w in
    let f = and_parts s.overflows (is_counter s k && (is_start s v && (is_limit s o && last))) h in
    let a = and_parts (is_counter s k) (is_start s v && (is_limit s o && last)) f.1 in
    let b = and_parts (is_start s v) (is_limit s o && last) a.1 in
    let c = and_parts (is_limit s o) last b.1 in
    let d = and_parts (is_step x) (is_condition s w) c.1 in
    let spot' = counter_is s k a.0 in
    let first' = first_is s v b.0 in
    let last' = last_is s o c.0 in
    let step' = step_is s x f.0 d.0 in
    record {
      overflows = f.0;
      spot = spot'.spot;
      precision = first'.precision;
      first = first'.number;
      last = last'.number;
      by = step'.by;
      counter = spot'.is;
      start = first'.is;
      limit = last'.is;
      step = step'.is;
      step_known = step'.known;
      step_few = step'.few;
      step_sets = step'.sets;
      tested = d.1;
      known = spot'.known;
      first_known = first'.known;
      last_known = last'.known;
    }

abbrev pub counting_of :
    {s : Scope} → {k : Y.Counter} → {v : Y.Value} → {o : Option Y.Number} → {x : Y.Number} → {w : Option Y.Bit} →
    IsCounting s k v o x w → Y.Stmts → (line : ℕ) → Counting
counting_of {x = x} {w = w} h body line =
    record {
      counter = whole h.spot;
      precision = h.precision;
      start = h.first;
      limit = h.last;
      step = x;
      by = h.by;
      condition = w;
      body = body;
      line = line;
    }

pub statement_is :
    {s : Scope} {k : Y.Counter} {v : Y.Value} {o : Option Y.Number} {x : Y.Number} {w : Option Y.Bit}
    (h : IsCounting s k v o x w) (body : Y.Stmts) (line : ℕ) →
    Y.DoCount k v o x w body line ≡ count_of (counting_of h body line)
statement_is {s} {k} {v} {o} {x} {w} h body line =
    ap (λ k'. Y.DoCount k' v o x w body line) h.counter
    ∙ ap (λ v'. Y.DoCount (Y.NumberCounter 31 (whole h.spot)) v' o x w body line) h.start
    ∙ ap (λ o'. Y.DoCount (Y.NumberCounter 31 (whole h.spot)) (Y.NumberValue h.precision h.first) o' x w body line)
    h.limit
