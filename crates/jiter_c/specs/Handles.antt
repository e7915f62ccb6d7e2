-- What a handle owns, and what is said of what it holds.
use base.Fml.{Fml}
use base.Stored.{Coded}
use denote.RawPtr.{Ptr}
use Rattle.std.specs.Box.Ownership.{box_owns}
use Rattle.std.specs.Global.{Global}
use Rattle.std_heap.specs.contracts.GlobalAllocator.TheImpl.{ghosts}
use Rattle.jiter_c.specs.contracts.handles.Contents.{the_row}

-- the same as a box of it
abbrev pub contents_owns : Global → Ptr → the_row.Denot → Fml
contents_owns alloc = box_owns (ghosts.dealloc_token alloc) the_row

abbrev pub contents_coded : Coded the_row.Denot
contents_coded = the_row.coded
