-- What is spelled is read.
use Rattle.std.specs.Prelude.{slice_range}
use Rattle.std.proofs.Common.{◌≡◌, ◌≢◌, ℕ, List, [], ◌∷◌, Option, Some, refl, sym, ap, ◌∙◌, subst}
use Rattle.pli_language.specs.declared.token.Symbol.TheVariants as S
use Rattle.pli_language.specs.declared.token.Kind.TheVariants as K
use Rattle.pli_language.specs.declared.token.Token.{Token}
use Rattle.pli_language.specs.declared.expr.Place.{Place}
use Rattle.pli_language.specs.Spells as G
use Rattle.pli_language.specs.Spells.{Takes, next_kind, Level, Disjoining, below, place_of, SpellsAt, SpellsChain, SpellsPrimary, SpellsReference, SpellsArrows, SpellsQualified, SpellsArguments, SpellsExprs}
use Rattle.pli_language.specs.Marks.{Marks, argument, first_place, expr_marks, reference_marks, qualified_marks, arguments_marks, argument_list_marks}
use Rattle.pli_language.specs.Tree as T
use Rattle.pli_phrase.specs.Reading.{Frame, Before, Between, Group, Listing, OperandDue, ArgumentDue, FirstDue, NameDue, NameRead, ArgumentsRead, OperandRead, Path, no_path, qualified, located, referred, with_qualifier, with_locator, exprs_with, text_due, run}
use Rattle.pli_phrase.proofs.Operators.{rank, Quiet, Stays, Fits, fits_lower, fits_between, of_level, at_quiet, height_below}
use Rattle.pli_phrase.proofs.Runs.{run_takes, run_prefixed, run_infix, run_prefix, run_operator, run_absent, run_first, run_referred}
use Rattle.pli_phrase.proofs.Spelled.{Starts, at_first, StartsName, reference_name, qualified_stops}
use Rattle.pli_phrase.proofs.TextValues.{text_spelled}

-- ---- the name that a reference ends with

abbrev pub tail_path : Path → T.Qualified → Path
tail_path path (T.Last n a) = path
tail_path path (T.Of n a q) = tail_path (with_qualifier path n a) q

abbrev pub last_name : T.Qualified → T.Name
last_name (T.Last n a) = n
last_name (T.Of n a q) = last_name q

abbrev pub last_arguments : T.Qualified → T.Arguments
last_arguments (T.Last n a) = a
last_arguments (T.Of n a q) = last_arguments q

tail_referred : (path : Path) (q : T.Qualified) → referred (tail_path path q) (last_name q) (last_arguments q) ≡ located path.locator (qualified path.qualifiers q)
tail_referred path (T.Last n a) = refl
tail_referred path (T.Of n a q) = tail_referred (with_qualifier path n a) q

module _ (s : List ℕ) where
  argument_step : (k : List Frame) (m : Marks) (t : Token) (ts : List Token) → run s ArgumentDue k m (t ∷ ts) ≡ run s OperandDue k (argument (place_of t) m) (t ∷ ts)
  unfolding run
  argument_step k m t ts = refl

  argument_first : (k : List Frame) (m : Marks) {ts : List Token} {p : Place} → Starts ts p → run s ArgumentDue k m ts ≡ run s OperandDue k (argument p m) ts
  argument_first k m {ts} {p} b =
      ap (run s ArgumentDue k m) b.is ∙ argument_step k m b.token b.behind ∙ ap (run s OperandDue k (argument (place_of b.token) m)) (sym b.is) ∙ ap (λ u. run s OperandDue k (argument u m) ts) (sym b.place)

  -- a reference where an operand is due
  name_operand : (k : List Frame) (m : Marks) {ts : List Token} → StartsName ts → run s OperandDue k m ts ≡ run s (NameDue no_path) k m ts
  name_operand k m b =
      run_takes s OperandDue (NameRead no_path (G.name_at s b.token b.word)) k k m m b.take refl ∙ sym (run_takes s (NameDue no_path) (NameRead no_path (G.name_at s b.token b.word)) k k m m b.take refl)

  mutual
    unfolding expr_marks reference_marks qualified_marks arguments_marks argument_list_marks

    pub at_reads : {o : Option Level} {ts rest : List Token} {e : T.Expr} → SpellsAt s o ts e rest → (k : List Frame) → Fits o k → (m : Marks) → run s OperandDue k m ts ≡ run s (OperandRead e) k (expr_marks e m) rest
    at_reads (G.chain level ts mid rest first e a c) k f m =
        at_reads a k (fits_lower level k f) m ∙ chain_reads c k f (subst (λ n. Quiet n (next_kind mid)) (height_below level) (at_quiet a)) m
    at_reads (G.prefixed ts after rest t op e is pre b) k f m =
        ap (run s OperandDue k m) is ∙ run_prefix s op k m t after pre ∙ at_reads b (Before op (place_of t) ∷ k) tt m ∙ run_prefixed s op (place_of t) e k (expr_marks e m) rest
    at_reads (G.primary ts rest e b) k f m = primary_reads b k m

    chain_reads : {level : Level} {left e : T.Expr} {ts rest : List Token} → SpellsChain s level left ts e rest → (k : List Frame) → Stays (rank level) k → Quiet (rank level) (next_kind ts) → (m : Marks) → run s (OperandRead left) k (expr_marks left m) ts ≡ run s (OperandRead e) k (expr_marks e m) rest
    chain_reads (G.stops level e ts stop) k f q m = refl
    chain_reads (G.goes_on level left right e ts after mid rest t op is here b c) k f q m =
        let o = of_level level t.kind op here in
        let quiet = subst (λ n. Quiet n (next_kind mid)) (height_below level) (at_quiet b) in
        let r1 = ap (run s (OperandRead left) k (expr_marks left m)) is in
        let r2 = run_operator s level op left k (expr_marks left m) t after here f in
        let r3 = at_reads b (Between op left ∷ k) (fits_between level op left k o.level) (expr_marks left m) in
        let r4 = run_infix s op left right k (expr_marks right (expr_marks left m)) mid (subst (λ n. Quiet n (next_kind mid)) (sym o.level) quiet) in
        r1 ∙ r2 ∙ r3 ∙ r4 ∙ chain_reads c k f quiet m

    primary_reads : {ts rest : List Token} {e : T.Expr} → SpellsPrimary s ts e rest → (k : List Frame) (m : Marks) → run s OperandDue k m ts ≡ run s (OperandRead e) k (expr_marks e m) rest
    primary_reads (G.number ts rest t n take) k m =
        run_takes s OperandDue (OperandRead (T.Number n (place_of t))) k k m m take refl
    primary_reads (G.text ts rest t v take spelled) k m =
        run_takes s OperandDue (OperandRead (T.Text v (place_of t))) k k m m take (ap (λ o. text_due o (place_of t) k m) (text_spelled v (slice_range s t.start t.end) spelled))
    primary_reads (G.bit ts rest t b take) k m =
        run_takes s OperandDue (OperandRead (T.Bit b (place_of t))) k k m m take refl
    primary_reads (G.parenthesized ts after mid rest t u e take inside close) k m =
        run_takes s OperandDue OperandDue k (Group (place_of t) ∷ k) m m take refl ∙ at_reads inside (Group (place_of t) ∷ k) tt m ∙ run_takes s (OperandRead e) (OperandRead (T.Parenthesized e (place_of t))) (Group (place_of t) ∷ k) k (expr_marks e m) (expr_marks e m) close refl
    primary_reads (G.reference ts rest r refers) k m = name_operand k m (reference_name refers) ∙ reference_reads refers k m

    pub reference_reads : {ts rest : List Token} {r : T.Reference} → SpellsReference s ts r rest → (k : List Frame) (m : Marks) → run s (NameDue no_path) k m ts ≡ run s (OperandRead (T.Refers r)) k (reference_marks r m) rest
    reference_reads (G.basic ts mid rest q r target arrows) k m =
        qualified_reads target no_path k m ∙ arrows_reads arrows (tail_path no_path q) (last_name q) (last_arguments q) (sym (tail_referred no_path q)) (qualified_stops target) k m

    arrows_reads : {locator r : T.Reference} {ts rest : List Token} → SpellsArrows s locator ts r rest → (path : Path) (name : T.Name) (a : T.Arguments) → locator ≡ referred path name a → next_kind ts ≢ Some (K.Symbol S.Point) → (k : List Frame) (m : Marks) → run s (ArgumentsRead path name a) k (reference_marks locator m) ts ≡ run s (OperandRead (T.Refers r)) k (reference_marks r m) rest
    arrows_reads (G.no_arrow r ts stop) path name a e n k m =
        run_referred s path name a k (reference_marks r m) ts n stop ∙ ap (λ u. run s (OperandRead (T.Refers u)) k (reference_marks r m) ts) (sym e)
    arrows_reads (G.arrow locator r ts after mid rest t q take target arrows) path name a e n k m =
        let there = with_locator path name a in
        let r1 = run_takes s (ArgumentsRead path name a) (NameDue there) k k (reference_marks locator m) (reference_marks locator m) take refl in
        let r2 = qualified_reads target there k (reference_marks locator m) in
        let same : T.Located locator q ≡ referred (tail_path there q) (last_name q) (last_arguments q) = ap (λ u. T.Located u q) e ∙ sym (tail_referred there q) in
        r1 ∙ r2 ∙ arrows_reads arrows (tail_path there q) (last_name q) (last_arguments q) same (qualified_stops target) k m

    qualified_reads : {ts rest : List Token} {q : T.Qualified} → SpellsQualified s ts q rest → (path : Path) (k : List Frame) (m : Marks) → run s (NameDue path) k m ts ≡ run s (ArgumentsRead (tail_path path q) (last_name q) (last_arguments q)) k (qualified_marks q m) rest
    qualified_reads (G.last ts after rest t word a take args stop) path k m =
        run_takes s (NameDue path) (NameRead path (G.name_at s t word)) k k m m take refl ∙ arguments_reads args path (G.name_at s t word) k m
    qualified_reads (G.of ts after mid point rest t u word a q take args dot target) path k m =
        let name = G.name_at s t word in
        let r1 = run_takes s (NameDue path) (NameRead path name) k k m m take refl in
        let r2 = arguments_reads args path name k m in
        let r3 = run_takes s (ArgumentsRead path name a) (NameDue (with_qualifier path name a)) k k (arguments_marks a m) (arguments_marks a m) dot refl in
        r1 ∙ r2 ∙ r3 ∙ qualified_reads target (with_qualifier path name a) k (arguments_marks a m)

    arguments_reads : {ts rest : List Token} {a : T.Arguments} → SpellsArguments s ts a rest → (path : Path) (name : T.Name) (k : List Frame) (m : Marks) → run s (NameRead path name) k m ts ≡ run s (ArgumentsRead path name a) k (arguments_marks a m) rest
    arguments_reads (G.absent ts stop) path name k m = run_absent s path name k m ts stop
    arguments_reads (G.empty ts mid rest t u take close) path name k m =
        run_takes s (NameRead path name) (FirstDue path name) k k m m take refl ∙ run_takes s (FirstDue path name) (ArgumentsRead path name (T.Listed T.NoExpr)) k k m m close refl
    arguments_reads (G.listed ts after mid rest t u es take stop inside close) path name k m =
        run_takes s (NameRead path name) (FirstDue path name) k k m m take refl ∙ run_first s path name k m after stop ∙ exprs_reads inside path name [] k m close

    exprs_reads : {ts mid rest : List Token} {u : Token} {es : T.Exprs} → SpellsExprs s ts es mid → (path : Path) (name : T.Name) (earlier : List T.Expr) (k : List Frame) (m : Marks) → Takes mid (K.Symbol S.CloseParenthesis) u rest → run s ArgumentDue (Listing path name earlier ∷ k) m ts ≡ run s (ArgumentsRead path name (T.Listed (exprs_with earlier es))) k (argument_list_marks es m) rest
    exprs_reads (G.one ts mid e a stop) path name earlier k m close =
        let here = Listing path name earlier ∷ k in
        let m' = expr_marks e (argument (first_place e) m) in
        argument_first here m (at_first a) ∙ at_reads a here tt (argument (first_place e) m) ∙ run_takes s (OperandRead e) (ArgumentsRead path name (T.Listed (exprs_with (e ∷ earlier) T.NoExpr))) here k m' m' close refl
    exprs_reads (G.more ts mid after rest t e es a comma others) path name earlier k m close =
        let here = Listing path name earlier ∷ k in
        let m' = expr_marks e (argument (first_place e) m) in
        argument_first here m (at_first a) ∙ at_reads a here tt (argument (first_place e) m) ∙ run_takes s (OperandRead e) ArgumentDue here (Listing path name (e ∷ earlier) ∷ k) m' m' comma refl ∙ exprs_reads others path name (e ∷ earlier) k m' close
