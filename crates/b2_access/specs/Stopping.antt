-- What stops an access before it does anything: another partition that comes first at what it reaches, and then one that stands inside
-- the text that it edits.
use Rattle.std.specs.Prelude.{ℕ, ◌==◌, List, [], ◌∷◌, ◌++◌, slice_get, Option, Some, None, if◌then◌else◌}
use Rattle.b2_term.specs.Terminal.{TerminalState}
use Rattle.b2_access.specs.declared.accesses.Answer.{Answer}
use Rattle.b2_access.specs.declared.accesses.Answer.TheVariants as answer
use Rattle.b2_access.specs.declared.objects.Object.TheVariants as object
use Rattle.b2_access.specs.declared.reached.TextUse.{TextUse}
use Rattle.b2_access.specs.declared.reached.TextUse.TheVariants as text
use Rattle.b2_access.specs.Reach.{DevicePart, DeviceReach, HoldFreed, Reach}
use Rattle.b2_access.specs.Store.{StoreState, content}

-- the partition in front of a terminal, and the one that holds a device, where there is one
abbrev pub in_front : Option TerminalState → List ℕ
in_front None = []
in_front (Some t) = t.front ∷ []

abbrev pub holding : Option (Option ℕ) → List ℕ
holding None = []
holding (Some None) = []
holding (Some (Some p)) = p ∷ []

-- those who come first: the one in front of the terminal, and then the holders of the devices in the order written, but for devices
-- that are freed
abbrev pub at_front : Option ℕ → StoreState → List ℕ
at_front None s = []
at_front (Some term) s = in_front (content s (object.Terminal term))

-- who frees devices is stopped by nobody
abbrev pub stopping_holder : DevicePart → Option (Option ℕ) → List ℕ
stopping_holder HoldFreed h = []
stopping_holder part h = holding h

abbrev pub holders : List DeviceReach → StoreState → List ℕ
holders [] s = []
holders (d ∷ ds) s = stopping_holder d.part (content s (object.Hog d.address)) ++ holders ds s

abbrev pub first_there : Reach → StoreState → List ℕ
first_there r s = at_front r.terminal s ++ holders r.devices s

-- the first of some partitions that is another
abbrev pub first_other : ℕ → List ℕ → Option ℕ
first_other who [] = None
first_other who (p ∷ ps) = if p == who then first_other who ps else Some p

-- the first that stands inside a text
abbrev pub first_inside : Option (List ℕ) → Option ℕ
first_inside None = None
first_inside (Some parts) = slice_get parts 0

abbrev pub inside_edited : ℕ → TextUse → StoreState → Option ℕ
inside_edited who text.Edited s = first_inside (content s (object.Borrow who))
inside_edited who other s = None

-- Wait is tested first, then Locked
abbrev pub stop_by : Option ℕ → Option ℕ → Option Answer
stop_by (Some q) inside = Some (answer.Wait q)
stop_by None (Some q) = Some (answer.Locked q)
stop_by None None = None

-- WHAT STOPS AN ACCESS OF A PARTITION, by what it reaches; None where nothing does
abbrev pub stop : ℕ → Reach → StoreState → Option Answer
stop who r s = stop_by (first_other who (first_there r s)) (inside_edited who r.text s)
