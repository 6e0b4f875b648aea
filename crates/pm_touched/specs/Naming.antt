-- What bodies name, in the order of their forms.
use Rattle.std.specs.Prelude.{ℕ, List, [], ◌∷◌, ◌++◌, map}
use Rattle.pm_design.specs.declared.body.Ex.{Ex, Ex-F, fold-Ex}
use Rattle.pm_design.specs.declared.body.St.{St, St-F, fold-St}
use Rattle.pm_design.specs.declared.connection.Callee.{Callee}
use Rattle.pm_design.specs.declared.connection.Part.{Part}
use Rattle.pm_touched.specs.declared.named.Named.{Named}

-- nothing is named
unfoldable pub nothing : Named
nothing = record { reads = []; writes = []; state_reads = []; state_writes = []; asked = []; called = [] }

-- some parts are read
unfoldable pub reading_parts : List Part → Named
reading_parts ps = record { reads = ps; writes = []; state_reads = []; state_writes = []; asked = []; called = [] }

-- some parts are written
unfoldable pub writing_parts : List Part → Named
writing_parts ps = record { reads = []; writes = ps; state_reads = []; state_writes = []; asked = []; called = [] }

-- a state is read
unfoldable pub reading_state : ℕ → Named
reading_state k = record { reads = []; writes = []; state_reads = k ∷ []; state_writes = []; asked = []; called = [] }

-- a state is written
unfoldable pub writing_state : ℕ → Named
writing_state k = record { reads = []; writes = []; state_reads = []; state_writes = k ∷ []; asked = []; called = [] }

-- a callee's guard is asked
unfoldable pub asking : Callee → Named
asking m = record { reads = []; writes = []; state_reads = []; state_writes = []; asked = m ∷ []; called = [] }

-- a callee is called
unfoldable pub calling : Callee → Named
calling m = record { reads = []; writes = []; state_reads = []; state_writes = []; asked = []; called = m ∷ [] }

-- what two name
unfoldable pub together : Named → Named → Named
together a b = record {
  reads = a.reads ++ b.reads;
  writes = a.writes ++ b.writes;
  state_reads = a.state_reads ++ b.state_reads;
  state_writes = a.state_writes ++ b.state_writes;
  asked = a.asked ++ b.asked;
  called = a.called ++ b.called;
}

-- what all of some name
abbrev pub all_together : List Named → Named
all_together [] = nothing
all_together (n ∷ ns) = together n (all_together ns)

-- what an expression names, once its operands are known
abbrev pub named_step : Ex-F Named → Named
named_step (Ex-F.Const c) = nothing
named_step (Ex-F.Get p) = reading_parts (p ∷ [])
named_step (Ex-F.Temp t lo n) = nothing
named_step (Ex-F.Pick i ps) = together i (reading_parts ps)
named_step (Ex-F.Number k) = reading_state k
named_step (Ex-F.Count k) = reading_state k
named_step (Ex-F.Item k i) = reading_state k
named_step (Ex-F.Last k) = reading_state k
named_step (Ex-F.Ready m) = asking m
named_step (Ex-F.Not a) = a
named_step (Ex-F.Fold f a) = a
named_step (Ex-F.Bin op a b) = together a b
named_step (Ex-F.Cat es) = all_together es
named_step (Ex-F.Zext a n) = a
named_step (Ex-F.Sext a n) = a
named_step (Ex-F.Trunc a n) = a
named_step (Ex-F.Cond c a b) = together (together c a) b

-- what an expression names
unfoldable pub named_in : Ex → Named
named_in = fold-Ex Named named_step

-- what a statement names, once its own statements are known
abbrev pub statement_step : St-F Named → Named
statement_step (St-F.Set p e) = together (named_in e) (writing_parts (p ∷ []))
statement_step (St-F.SetPick i ps e) = together (together (named_in i) (named_in e)) (writing_parts ps)
statement_step (St-F.SetTemp t e) = named_in e
statement_step (St-F.SetNumber k e) = together (named_in e) (writing_state k)
statement_step (St-F.Push k side e) = together (together (named_in e) (reading_state k)) (writing_state k)
statement_step (St-F.Pop k side target) = together (reading_state k) (writing_state k)
statement_step (St-F.Clear k) = writing_state k
statement_step (St-F.Call m es target) = together (all_together (map named_in es)) (calling m)
statement_step (St-F.If c xs ys) = together (together (named_in c) (all_together xs)) (all_together ys)

-- what a statement names
unfoldable pub statement_names : St → Named
statement_names = fold-St Named statement_step

-- what a body names
abbrev pub body_names : List St → Named
body_names body = all_together (map statement_names body)
