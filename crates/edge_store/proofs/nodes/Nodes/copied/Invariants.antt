use Rattle.std.proofs.Common.{◌≡◌, ◌<◌, length, take}
use Rattle.edge_store.specs.inside.Links.{place_of}
use Rattle.edge_store.proofs.nodes.Nodes.copied.Given as goal

abbrev pub invariant-loop-i : goal.invariant-loop-i
invariant-loop-i g l = (l.items.items ≡ take l.i l.self.items) × (l.len ≡ length l.self.items) × (l.i < l.len → l.at.ptr ≡ place_of l.self.links l.i)
