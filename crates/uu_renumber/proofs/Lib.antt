mod Renumbering
