-- The record of a state: the room's head, and its part.
use Rattle.std.specs.Prelude.{ℕ, ◌+◌, ◌*◌, max, refl, Bool, true, false, ◌&&◌, List, [], ◌∷◌, ◌++◌, leb}
use Rattle.machine.specs.State.{Txn, Entry, State, Ceilings, fits}
use Rattle.codec.specs.Codec.{Codec}
use Rattle.codec.specs.Formats.{bind, only, via}
use Rattle.layout.specs.Offsets.{entries_at, entry_size, txn_size, mark_size}
use Rattle.layout.specs.Records.{head_form, Counts, counts_form, with_entry_count, with_active_count, counts_of, Content, part_form}

abbrev pub state_raw : ℕ → Codec (ℕ × Content)
state_raw m = bind head_form (λ l. part_form m)

abbrev pub to_state : ℕ × Content → State
to_state p = record { last = p.0; active = p.1.active; entries = p.1.entries }

abbrev pub content_of : State → Content
content_of s = record { entries = s.entries; active = s.active }

abbrev pub of_state : State → ℕ × Content
of_state s = (s.last, content_of s)

unfoldable pub plain_form : ℕ → Codec State
plain_form m = via (state_raw m) to_state of_state (λ b. refl) (λ a o. refl)

-- the numbers that stand before the entries: of the room's head the last one, and what its part begins with
pub record Heads : Type 0 where
  pub last : ℕ
  pub counts : Counts

abbrev pub heads_of : State → Heads
heads_of s = record { last = s.last; counts = counts_of (content_of s) }

abbrev pub write_heads : Heads → List ℕ
write_heads h = head_form.write h.last ++ counts_form.write h.counts

-- each of them is changed by its own function, so that a number more moves these alone
abbrev pub set_last : ℕ → Heads → Heads
set_last n h = record { last = n; counts = h.counts }

abbrev pub set_entry_count : ℕ → Heads → Heads
set_entry_count n h = record { last = h.last; counts = with_entry_count n h.counts }

abbrev pub set_active_count : ℕ → Heads → Heads
set_active_count n h = record { last = h.last; counts = with_active_count n h.counts }

-- "starts and sequences at most the last number"
unfoldable pub highest : {A : Type 0} → (A → ℕ) → List A → ℕ
highest f [] = 0
highest f (x ∷ xs) = max (f x) (highest f xs)

abbrev pub seq_of : Entry → ℕ
seq_of e = e.seq

abbrev pub start_of : Txn → ℕ
start_of t = t.start

unfoldable pub in_time : State → Bool
in_time s = leb (highest seq_of s.entries) s.last && leb (highest start_of s.active) s.last

-- "no entries when nobody is active"
abbrev pub idle : List Txn → List Entry → Bool
idle [] [] = true
idle [] (e ∷ es) = false
idle (t ∷ ts) es = true

-- of what can be written, the states that a room may hold: with the formats' own tests they are the machine states
-- (`holds_machine`, `machine_holds`)
unfoldable pub sound : Ceilings → State → Bool
sound L s = fits L s && (in_time s && idle s.active s.entries)

unfoldable pub state_form : Ceilings → Codec State
state_form L = only (plain_form L.key) (sound L)

-- what the heads, the entries, the transactions and the marks take beside key bytes
abbrev pub room_size : Ceilings → ℕ
room_size L = entries_at + entry_size * L.entries + txn_size * L.active + mark_size * L.marks + L.bytes
