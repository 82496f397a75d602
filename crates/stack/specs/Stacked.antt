-- What a stack over lent memory holds.
use Rattle.std.specs.Prelude.{◌≡◌, ℕ, ◌<◌, List, [], ◌∷◌, reverse, length, take, Some, None, Ok, Err, Option, Result, slice_set}
use Rattle.std.specs.Borrow.{GName}
use Rattle.stack.specs.declared.stack.Stack.{Stack}

-- the items, the newest first
unfoldable pub held : {A : Type 0} → Stack A → List A
held s = reverse (take s.len s.items.now)

-- the items, the oldest first
unfoldable pub stacked : {A : Type 0} → Stack A → List A
stacked s = take s.len s.items.now

-- all of the lent memory: the items from the front on, the newest last, and behind them what stood there
unfoldable pub memory : {A : Type 0} → Stack A → List A
memory s = s.items.now

-- how many items it has room for
unfoldable pub room : {A : Type 0} → Stack A → ℕ
room s = length s.items.now

-- which loan the memory is: two with one name are the same memory of the caller's
unfoldable pub loan : {A : Type 0} → Stack A → GName
loan s = s.items.ghost_name

-- Where there is room, the item is on top, and one place of the memory is written.
-- Where there is none, the item comes back and nothing is altered.
abbrev pub Pushed : {A : Type 0} → Stack A → A → Result (Unit {0}) A → Stack A → Type 0
Pushed s x (Ok _) t =
    (length (held s) < room s) × (held t ≡ x ∷ held s) × (room t ≡ room s) × (memory t ≡ slice_set (memory s) (length (held s)) x)
Pushed s x (Err y) t = (length (held s) ≡ room s) × (y ≡ x) × (t ≡ s)

-- The newest item is taken off; an empty stack stays so. The memory is not written.
abbrev pub Popped : {A : Type 0} → Stack A → Option A → Stack A → Type 0
Popped s (Some x) t = (held s ≡ x ∷ held t) × (room t ≡ room s) × (memory t ≡ memory s)
Popped s None t = (held s ≡ []) × (t ≡ s)
