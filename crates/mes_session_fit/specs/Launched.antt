-- The tasks of groups that are launched together, such as the operations of a call.
use Rattle.std.specs.Prelude.{◌≡◌, ℕ, ◌+◌, ◌<◌, List, length, get_or, take, min}
use Rattle.std.specs.List.{flat_map}
use Rattle.mes_model.specs.TaskInfo.{TaskInfo}
use Rattle.mes_msg.specs.Operation.{Operation}
use Rattle.mes_msg.specs.Operation.TheVariants as of

-- the tasks of one operation
abbrev pub launched_by : Operation → List TaskInfo
launched_by (of.Launch tasks) = tasks

-- the tasks of all groups, in order
abbrev pub launched : {G : Type 0} → (G → List TaskInfo) → List G → List TaskInfo
launched tasks groups = flat_map tasks groups

-- the index, among all tasks, of task t of group g
abbrev pub place : {G : Type 0} → (G → List TaskInfo) → List G → ℕ → ℕ → ℕ
place tasks groups g t = length (launched tasks (take g groups)) + t

-- group `at` exists, and has a task at index `task`
pub record IsInRange {G : Type 0} (tasks : G → List TaskInfo) (groups : List G) (at task : ℕ) : Type 0 where
  pub group_within : at < length groups
  pub task_within : (group : G) → group ≡ get_or groups at group → task < length (tasks group)

-- the reported index of the task at index n: n, but at most 2^64 - 1
abbrev pub as_index : ℕ → ℕ
as_index n = min n 18446744073709551615
