mod WholeLines
