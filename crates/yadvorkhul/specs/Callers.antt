-- Calls through the exports, with all that a caller lends and gets (W-204, W-212). Assumes nothing.
use Rattle.std.specs.Prelude.{◌≡◌, cond, List, [], ◌∷◌, ◌++◌, ℕ, ltb, ℤ, length}
use Rattle.planner.specs.Answer.{Slices}
use Rattle.work_store.specs.State.{Draft}
use Rattle.work_store.specs.Calls.{Call}
use Rattle.work_store.specs.Store.{held_in}
use Rattle.roletable.specs.Secrecy.{Asked, act, tariff, table, planning, mark_planning, limits, marks, Outsider}
use Rattle.roletable.specs.History.{work_of}
use Rattle.yadvorkhul.specs.Work.{EnterExported, WorkExported, TariffExported, TableExported, LimitsExported, MarksExported, PlanExported, MarkExported}

-- who calls what, with the report and the worth that are lent; a call that is lent no worth has an empty one
pub record Said : Type 0 where
  pub role : ℕ
  pub ask : Asked
  pub report : List ℕ
  pub worth : List ℤ

-- a call by a role, or entering a case, which takes none
pub data Called : Type 0 where
  said : Said → Called
  entering : Draft → List ℕ → Called

-- the slices that are lent beside report and worth
pub data Lent : Type 0 where
  nothing : Lent
  tariff_cells : List ℤ → List ℕ → List ℕ → Lent
  table_cells : List ℕ → Lent
  plan_cells : Slices → Lent
  limit_cells : List ℕ → List ℕ → Lent
  mark_cells : List ℕ → Lent

-- what a caller gets: the number, and what report, worth and every other lent slice hold then
pub record Got : Type 0 where
  pub number : ℕ
  pub report : List ℕ
  pub worth : List ℤ
  pub lent : Lent

-- ---- a call on a store, as the exports promise it

abbrev pub Answers : ℕ → Asked → List ℕ → List ℤ → List ℕ → List ℕ → Got → Type 0
Answers role (act call) u w before after x =
    WorkExported role call before after u x.report x.number × (x.worth ≡ w) × (x.lent ≡ nothing)
Answers role (tariff c s d) u w before after x =
    (c' : List ℤ) × (s' : List ℕ) × (d' : List ℕ) × TariffExported role (held_in before) c s d c' s' d' u x.report x.number × (x.worth ≡ w)
    × (x.lent ≡ tariff_cells c' s' d') × (after ≡ before)
Answers role (table t) u w before after x =
    (t' : List ℕ) × TableExported role (held_in before) t t' u x.report x.number × (x.worth ≡ w) × (x.lent ≡ table_cells t') × (after ≡ before)
Answers role (planning old) u w before after x =
    (new : Slices) × PlanExported role (held_in before) old new u x.report w x.worth x.number × (x.lent ≡ plan_cells new) × (after ≡ before)
Answers role (mark_planning k old) u w before after x =
    (new : Slices) × MarkExported role k (held_in before) old new u x.report w x.worth x.number × (x.lent ≡ plan_cells new) × (after ≡ before)
Answers role (limits l c) u w before after x =
    (l' : List ℕ) × (c' : List ℕ) × LimitsExported role (held_in before) l c l' c' u x.report x.number × (x.worth ≡ w) × (x.lent ≡ limit_cells l' c')
    × (after ≡ before)
Answers role (marks f) u w before after x =
    (f' : List ℕ) × MarksExported role (held_in before) f f' u x.report x.number × (x.worth ≡ w) × (x.lent ≡ mark_cells f') × (after ≡ before)

abbrev pub Exports : Called → List ℕ → List ℕ → Got → Type 0
Exports (said c) before after x = Answers c.role c.ask c.report c.worth before after x
Exports (entering d u) before after x = EnterExported d before after u x.report x.number × (x.worth ≡ []) × (x.lent ≡ nothing)

-- a history on one store, and all that its callers get: between calls the store stays as the last call left it
unfoldable pub Runs : List Called → List ℕ → List ℕ → List Got → Type 0
Runs [] before last l = (last ≡ before) × (l ≡ [])
Runs (c ∷ h) before last l =
    (after : List ℕ) × (x : Got) × (rest : List Got) × Exports c before after x × Runs h after last rest × (l ≡ x ∷ rest)

-- depot and reader call, and whoever does enters a case
pub data Outside : List Called → Type 0 where
  ends : Outside []
  calls : {c : Said} {h : List Called} → Outsider c.role → Outside h → Outside (said c ∷ h)
  enters : {d : Draft} {u : List ℕ} {h : List Called} → Outside h → Outside (entering d u ∷ h)

-- the edits, marks and returns that work: those by a role that may make them, with a report that is long enough
unfoldable pub calls_of : List Said → List Call
calls_of [] = []
calls_of (c ∷ h) = cond (ltb (length c.report) 2) [] (work_of c.role c.ask) ++ calls_of h
