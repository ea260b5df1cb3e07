-- The making of one set after another.
use Rattle.std.proofs.Common.{ℕ, List, [], ◌∷◌, ◌++◌, Ok, Err, Result, sym, refl, ap, ◌∙◌, subst, append_assoc}
use Rattle.std.specs.List.{AllByRecursion}
use Rattle.std.proofs.ByRecursion.{All-append, All-weaker}
use Rattle.qbf.proofs.Lists.{in_left, in_right}
use Rattle.table.specs.declared.table.Full.{Full}
use Rattle.table.specs.declared.table.Table.{Table}
use Rattle.table.specs.Tables.{Held, Adds, Makes, Made, Stopped, MakesAll}
use Rattle.table.proofs.Grown.{Within, adds_same, adds_widen, adds_then, held_kept}

within_left : (sets more : List (List (List ℕ))) → Within sets (sets ++ more)
within_left sets more x s i n = (s, in_left s sets more i, n)

within_right : (sets more : List (List (List ℕ))) → Within more (sets ++ more)
within_right sets more x s i n = (s, in_right s sets more i, n)

pub adds_append : (t : Table) (sets : List (List (List ℕ))) (u : Table) (more : List (List (List ℕ))) (w : Table) → Adds t sets u → Adds u more w → Adds t (sets ++ more) w
adds_append t sets u more w g h = adds_then t (sets ++ more) u w (adds_widen t sets u (sets ++ more) (within_left sets more) g) (adds_widen u more w (sets ++ more) (within_right sets more) h)

all_kept : (t : Table) (sets : List (List (List ℕ))) (u : Table) → Adds t sets u → (held : List (List (List ℕ))) → AllByRecursion (Held t) held → AllByRecursion (Held u) held
all_kept t sets u g held a = All-weaker (Held t) (Held u) (held_kept t sets u g) held a

pub made_none : (t : Table) → Made t [] t
made_none t = record { grows = adds_same t []; held = tt }

pub made_then : (t : Table) (sets : List (List (List ℕ))) (u : Table) (more : List (List (List ℕ))) (w : Table) → Made t sets u → Made u more w → Made t (sets ++ more) w
made_then t sets u more w a b = record {
  grows = adds_append t sets u more w a.grows b.grows;
  held = All-append (Held w) sets more (all_kept u more w b.grows sets a.held) b.held;
}

pub stopped_then : (t : Table) (sets : List (List (List ℕ))) (u : Table) (more : List (List (List ℕ))) (w : Table) → Made t sets u → Stopped u more w → Stopped t (sets ++ more) w
stopped_then t sets u more w a b = record {
  before = sets ++ b.before;
  hand = b.hand;
  after = b.after;
  order = ap (λ z. sets ++ z) b.order ∙ sym (append_assoc sets b.before (b.hand ∷ b.after));
  grows = subst (λ z. Adds t z w) (sym (append_assoc sets b.before (b.hand ∷ []))) (adds_append t sets u (b.before ++ (b.hand ∷ [])) w a.grows b.grows);
  held = All-append (Held w) sets b.before (all_kept u (b.before ++ (b.hand ∷ [])) w b.grows sets a.held) b.held;
  misses = b.misses;
}

pub stopped_more : (t : Table) (sets : List (List (List ℕ))) (u : Table) (more : List (List (List ℕ))) → Stopped t sets u → Stopped t (sets ++ more) u
stopped_more t sets u more a = record {
  before = a.before;
  hand = a.hand;
  after = a.after ++ more;
  order = ap (λ z. z ++ more) a.order ∙ append_assoc a.before (a.hand ∷ a.after) more;
  grows = a.grows;
  held = a.held;
  misses = a.misses;
}

pub made_one : (t : Table) (s : List (List ℕ)) (u : Table) (n : ℕ) → Makes t s u (Ok n) → Made t (s ∷ []) u
made_one t s u n m = record { grows = m.grows; held = ((n, m.cases), tt) }

pub stopped_one : (t : Table) (s : List (List ℕ)) (u : Table) (e : Full) → Makes t s u (Err e) → Stopped t (s ∷ []) u
stopped_one t s u e m = record { before = []; hand = s; after = []; order = refl; grows = m.grows; held = tt; misses = m.cases }

pub all_one : (t : Table) (s : List (List ℕ)) (u : Table) (r : Result ℕ Full) → Makes t s u r → MakesAll t (s ∷ []) s u r
all_one t s u (Ok n) m = record { cases = (made_one t s u n m, m.cases) }
all_one t s u (Err e) m = record { cases = stopped_one t s u e m }

pub all_then : (t : Table) (sets : List (List (List ℕ))) (u : Table) (more : List (List (List ℕ))) (s : List (List ℕ)) (w : Table) (r : Result ℕ Full) → Made t sets u → MakesAll u more s w r → MakesAll t (sets ++ more) s w r
all_then t sets u more s w (Ok n) a m = record { cases = (made_then t sets u more w a m.cases.0, m.cases.1) }
all_then t sets u more s w (Err e) a m = record { cases = stopped_then t sets u more w a m.cases }

pub all_stopped : (t : Table) (r : List (List ℕ)) (u : Table) (e : Full) (more : List (List (List ℕ))) (s : List (List ℕ)) → Makes t r u (Err e) → MakesAll t (r ∷ more) s u (Err e)
all_stopped t r u e more s m = record { cases = stopped_more t (r ∷ []) u more (stopped_one t r u e m) }
