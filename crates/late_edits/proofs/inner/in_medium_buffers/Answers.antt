use Rattle.append.proofs.Delivering.{tried_bytes, tried_refused, short_admits, short_count, short_then}
use Rattle.late_edits.proofs.inner.in_medium_buffers.Goals as goal

pub in_large_buffers-requires : goal.in_large_buffers-requires
in_large_buffers-requires c = (short_admits _ _ _ _ _ _ _ c.in_short_buffers.ensures (rw c.in-Err-Short.field-0-is at c.in-Err-Short.is) _ c.requires.0, short_count _ _ _ _ _ _ _ c.in_short_buffers.ensures (rw c.in-Err-Short.field-0-is at c.in-Err-Short.is) _ c.requires.1)

pub returns-in-Ok : goal.returns-in-Ok
returns-in-Ok c = tried_bytes _ _ _ _ _ _ _ c.in_short_buffers.ensures _ _ c.in-Ok.is

pub returns-in-Err-Refused : goal.returns-in-Err-Refused
returns-in-Err-Refused c = tried_refused _ _ _ _ _ _ _ c.in_short_buffers.ensures _ (rw c.in-Err-Refused.field-0-is at c.in-Err-Refused.is)

pub returns-in-Err-Short : goal.returns-in-Err-Short
returns-in-Err-Short c = short_then _ _ _ _ _ _ _ c.in_short_buffers.ensures (rw c.in-Err-Short.field-0-is at c.in-Err-Short.is) _ _ _ c.in_large_buffers.ensures
